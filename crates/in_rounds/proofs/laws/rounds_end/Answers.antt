use Rattle.in_rounds.proofs.Rounded.{rounds_end}
use Rattle.in_rounds.proofs.laws.rounds_end.Goals as goal

pub returns : goal.returns
returns c = rounds_end
