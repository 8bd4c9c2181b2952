use Rattle.in_syntax.proofs.Lexing.TextLaws.{tokens_unique}
use Rattle.in_syntax.proofs.laws.tokens_are_unique.Goals as goal

pub returns : goal.returns
returns c = tokens_unique
