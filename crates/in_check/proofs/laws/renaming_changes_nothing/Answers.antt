use Rattle.in_check.proofs.Reached.Unchanged.{unchanged}
use Rattle.in_check.proofs.laws.renaming_changes_nothing.Goals as goal

pub returns : goal.returns
returns c = unchanged
