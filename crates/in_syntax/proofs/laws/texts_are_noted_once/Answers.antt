use Rattle.in_syntax.proofs.Grammar.OneExpected as expected
use Rattle.in_syntax.proofs.laws.texts_are_noted_once.Goals as goal

pub returns : goal.returns
returns c = expected.texts_are_noted_once
