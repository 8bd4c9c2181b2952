use Rattle.in_syntax.proofs.Public.{tree_in_order, tree_sized}
use Rattle.in_check.proofs.checking.declare_net.Goals as goal

pub build_net-requires : goal.build_net-requires
build_net-requires c =
    let text = c.requires.tree.text in
    let tree = c.requires.tree.tree in
    record {
      sized = tree_sized c.args.source.now.limits text c.args.source.now tree;
      order = tree_in_order c.args.source.now.limits text c.args.source.now tree;
      tabled = c.requires.tables.0;
      faultless = c.requires.tables.1;
    }
