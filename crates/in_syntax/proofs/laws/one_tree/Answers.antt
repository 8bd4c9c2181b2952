use Rattle.in_syntax.proofs.Grammar.Outcomes as outcomes
use Rattle.in_syntax.proofs.laws.one_tree.Goals as goal

pub returns : goal.returns
returns c = outcomes.one_tree
