use Rattle.in_cover.proofs.OneTable.{covered_once}
use Rattle.in_cover.proofs.laws.rules_are_covered_once.Goals as goal

pub returns : goal.returns
returns c = covered_once
