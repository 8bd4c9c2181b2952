use Rattle.in_syntax.proofs.Lexing.Standing.{tokens_in_order}
use Rattle.in_syntax.proofs.laws.tokens_stand_in_order.Goals as goal

pub returns : goal.returns
returns c = tokens_in_order
