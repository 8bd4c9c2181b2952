use Rattle.in_larger_limits.proofs.Checked.{checked_alike}
use Rattle.in_larger_limits.proofs.laws.texts_are_checked_alike.Goals as goal

pub returns : goal.returns
returns c = checked_alike
