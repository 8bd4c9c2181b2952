use Rattle.in_cover.proofs.FirstFault.{incomplete}
use Rattle.in_cover.proofs.laws.refused_rules_are_incomplete.Goals as goal

pub returns : goal.returns
returns c = λ t rules r refused complete. incomplete t rules r refused complete
