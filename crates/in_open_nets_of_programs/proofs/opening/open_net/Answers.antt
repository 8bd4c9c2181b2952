use Rattle.in_open_nets_of_programs.proofs.Opened.{is_orderly}
use Rattle.in_open_nets_of_programs.proofs.opening.open_net.Goals as goal

pub new-requires : goal.new-requires
new-requires c =
    is_orderly c.args.symbols.now c.args.net.now _ c.requires.numbered c.in_ok-nodes.ensures.whole c.requires.over
    (record { nodes = c.in_ok-nodes.ensures.nodes; wires = c.in_ok-wires.ensures; free = c.free_ends.ensures }) c.in_ok-nodes.ensures.few
