use Rattle.in_gluing.proofs.Joining.{joins_next}
use Rattle.in_gluing.proofs.laws.joins_next.Goals as goal

pub returns : goal.returns
returns c = joins_next
