use Rattle.in_syntax.proofs.Grammar.OneExpected as expected
use Rattle.in_syntax.proofs.laws.one_expected.Goals as goal

pub returns : goal.returns
returns c = expected.one_expected
