use Rattle.in_syntax.proofs.Public.{tree_in_order, tree_sized}
use Rattle.in_check.proofs.checking.declare_rules.Goals as goal

pub build_rules-requires-clause-sized : goal.build_rules-requires-clause-sized
build_rules-requires-clause-sized c = tree_sized c.args.source.now.limits c.requires.tree.text c.args.source.now c.requires.tree.tree

pub build_rules-requires-clause-order : goal.build_rules-requires-clause-order
build_rules-requires-clause-order c = tree_in_order c.args.source.now.limits c.requires.tree.text c.args.source.now c.requires.tree.tree
