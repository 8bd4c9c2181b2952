use Rattle.in_check.proofs.OneAnswer.{one_finding}
use Rattle.in_check.proofs.laws.findings_are_one.Goals as goal

pub returns : goal.returns
returns c = one_finding
