use Rattle.std.proofs.Common.{◌≡◌, ◌+◌, sym, subst, ◌∙◌, arith}
use Rattle.in_node_orders.specs.Turns.{AreTurns}
use Rattle.in_simple_deriving.proofs.Numbered.{HasOthers, others_end, others_more, others_past}
use Rattle.in_simple_deriving.proofs.turns.with_others.Goals as goal
use Rattle.in_simple_deriving.proofs.turns.with_others.Goals.{then-turns-node+in_ok-push, else-turns-node}

pub returns : goal.returns
returns c =
    let count = c.args.count in
    let first = c.args.first in
    let turns = c.as_slice-turns.result.now in
    let ts : AreTurns count first turns = subst (AreTurns count first) (sym c.as_slice-turns.ensures) c.in_ok-found.ensures in
    let end = c.loop-node.auto.node-end in
    let over = c.loop-node-test.false in
    let all : c.loop-node.node ≡ count = omega (arith, end, over) in
    others_end count first turns ts c.loop-node.nodes c.requires.first (subst (λ z. HasOthers first turns z c.loop-node.nodes) all c.loop-node.invariant)

pub loop-node-preserved : goal.loop-node-preserved
loop-node-preserved c =
    let count = c.args.count in
    let first = c.args.first in
    let turns = c.as_slice-turns.result.now in
    let ts : AreTurns count first turns = subst (AreTurns count first) (sym c.as_slice-turns.ensures) c.in_ok-found.ensures in
    let n = c.loop-node.node in
    let nodes = c.loop-node.nodes in
    let i = c.loop-node.invariant in
    let size = c.len-taken.ensures in
    elim c.if-turns-node.branch [
      | then-turns-node+in_ok-push w ↦ subst (HasOthers first turns (n + 1)) (sym (w.nodes-is ∙ w.in_ok-push.ensures.ok)) (others_more first turns n nodes i (w.if-turns-node.true ∙ size))
      | else-turns-node w ↦ subst (HasOthers first turns (n + 1)) (sym w.nodes-is) (others_past count first turns ts n nodes i c.loop-node-test.true (λ e. w.if-turns-node.false (e ∙ sym size)))
    ]
