use Rattle.in_check.proofs.Reached.Plain.{starts}
use Rattle.in_check.proofs.laws.plain_starts.Goals as goal

pub returns : goal.returns
returns c = starts
