use Rattle.std.proofs.Common.{◌≡◌, length, subst, ap, ◌∙◌, arith}
use Rattle.in_simple_deriving.specs.Turns.{IsNodeTurns, node_at, turn_of}
use Rattle.in_simple_deriving.proofs.HeadParts.{part_all}
use Rattle.in_simple_deriving.proofs.Tests.{below_many}
use Rattle.in_simple_deriving.proofs.heads.Headed.whole.Goals as goal

pub returns-clause-size : goal.returns-clause-size
returns-clause-size c = below_many (length c.args.heads.now.net.nodes) _

pub returns-clause-all : goal.returns-clause-all
returns-clause-all c = λ n l.
    let x = c.args.heads.now in
    let turns = subst IsNodeTurns c.order-order.ensures c.node.ensures.turns in
    let e : c.node.result ≡ node_at x 0 = c.node.ensures.node ∙ ap (λ z. node_at z 0) c.order-order.ensures in
    part_all x c.node.result n (ap (turn_of x) e ∙ (turns.node 0 (let some = (turns.turn 0 c.requires).0 in omega arith)).1) l
