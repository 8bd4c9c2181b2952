use Rattle.in_syntax.proofs.Lexing.TextLaws.{not_both}
use Rattle.in_syntax.proofs.laws.no_text_has_both.Goals as goal

pub returns : goal.returns
returns c = not_both
