use Rattle.in_syntax.proofs.Lexing.TextLaws.{fault_unique}
use Rattle.in_syntax.proofs.laws.token_faults_are_unique.Goals as goal

pub returns : goal.returns
returns c = fault_unique
