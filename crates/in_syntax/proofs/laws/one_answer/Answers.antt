use Rattle.in_syntax.proofs.Grammar.WholeTexts as laws
use Rattle.in_syntax.proofs.laws.one_answer.Goals as goal

pub returns : goal.returns
returns c = laws.one_answer
