use Rattle.in_syntax.proofs.Lexing.Standing.{tokens_stand}
use Rattle.in_syntax.proofs.laws.tokens_stand_in_their_text.Goals as goal

pub returns : goal.returns
returns c = tokens_stand
