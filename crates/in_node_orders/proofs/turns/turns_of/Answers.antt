use Rattle.std.proofs.Common.{◌≡◌, ◌+◌, ◌∙◌, length, get_or, sym, subst, ap, inl, inr, arith}
use Rattle.in_node_orders.specs.Turns.{AreTurnsBelow}
use Rattle.in_simple_bridges.specs.Spans.{at}
use Rattle.in_node_orders.proofs.Turning.{not_distinct, turned, turns_all}
use Rattle.in_node_orders.proofs.turns.turns_of.Goals as goal
use Rattle.in_node_orders.proofs.turns.turns_of.Goals.{then-node-count-via-then-node-count, then-node-count-via-else-node-count+then-as_slice-node}

pub loop-turn-preserved : goal.loop-turn-preserved
loop-turn-preserved c =
    let nodes = c.args.nodes.now in
    let i = c.loop-turn.invariant in
    let t = c.loop-turn.turn in
    let n = get_or c.as_slice.result.now t 0 in
    let e : n ≡ at nodes t = ap (λ z. at z t) c.as_slice.ensures in
    let l = c.len-last.ensures in
    let free : at c.loop-turn.turns n ≡ length nodes = ap (λ z. at z n) (sym c.as_slice-else-node-count.ensures) ∙ c.if-as_slice-node.false ∙ l in
    subst (AreTurnsBelow c.args.count nodes (t + 1)) (sym c.set.ensures) (turned c.args.count nodes t c.loop-turn.turns n i (omega (arith, l)) e c.if-node-count.false free)

pub returns : goal.returns
returns c =
    let l = c.len-last.ensures in
    let f = c.loop-turn-test.false in
    let a = c.loop-turn.auto in
    turns_all c.args.count c.args.nodes.now c.loop-turn.turn c.loop-turn.turns (omega arith) c.loop-turn.invariant

pub returns-then-node-count : goal.returns-then-node-count
returns-then-node-count c =
    let nodes = c.args.nodes.now in
    let t = c.loop-turn.turn in
    let n = get_or c.as_slice.result.now t 0 in
    let e : n ≡ at nodes t = ap (λ z. at z t) c.as_slice.ensures in
    let l = c.len-last.ensures in
    let test = c.loop-turn-test.true in
    let not = not_distinct c.args.count nodes t c.loop-turn.turns n c.loop-turn.invariant (omega (arith, test, l)) e in
    elim c.then-node-count.branch [
      | then-node-count-via-then-node-count w ↦ not (inl w.if-node-count.true)
      | then-node-count-via-else-node-count+then-as_slice-node w ↦ not (inr (λ none. w.if-as_slice-node.true (ap (λ z. at z n) w.as_slice-else-node-count.ensures ∙ none ∙ sym l)))
    ]
