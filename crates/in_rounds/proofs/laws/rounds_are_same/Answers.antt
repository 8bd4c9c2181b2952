use Rattle.in_rounds.proofs.SameRound.{same_round}
use Rattle.in_rounds.proofs.laws.rounds_are_same.Goals as goal

pub returns : goal.returns
returns c = same_round
