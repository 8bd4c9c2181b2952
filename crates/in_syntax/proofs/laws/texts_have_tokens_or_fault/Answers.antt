use Rattle.in_syntax.proofs.Lexing.TextLaws.{tokens_or_fault}
use Rattle.in_syntax.proofs.laws.texts_have_tokens_or_fault.Goals as goal

pub returns : goal.returns
returns c = tokens_or_fault
