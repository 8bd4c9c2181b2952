use Rattle.in_larger_limits.proofs.Checked.{accepted_by_large}
use Rattle.in_larger_limits.proofs.laws.accepted_by_large.Goals as goal

pub returns : goal.returns
returns c = accepted_by_large
