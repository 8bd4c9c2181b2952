use Rattle.in_node_orders.proofs.Edges.{growing_new}
use Rattle.in_node_orders.proofs.growing.Growing.new.Goals as goal

pub returns-clause-growing : goal.returns-clause-growing
returns-clause-growing c =
    let u = c.in_ok-filled.ensures in
    let v = c.in_ok-filled-2.ensures in
    let s = c.in_ok-own_numbers.ensures in
    growing_new c.args.edges c.in_ok-filled.field-0 c.in_ok-filled-2.field-0 c.in_ok-own_numbers.field-0 c.args.vertices c.requires u.size v.size s.size u.all s.all
