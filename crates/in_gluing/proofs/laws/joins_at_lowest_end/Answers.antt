use Rattle.in_gluing.proofs.MadeByJoining.{joins_at_lowest_end}
use Rattle.in_gluing.proofs.laws.joins_at_lowest_end.Goals as goal

pub returns : goal.returns
returns c = joins_at_lowest_end
