use Rattle.in_syntax.proofs.Grammar.WholeTexts as laws
use Rattle.in_syntax.proofs.laws.texts_are_parsed_once.Goals as goal

pub returns : goal.returns
returns c = laws.parsed_once
