use Rattle.std.proofs.Common.{◌≡◌, ◌+◌, ◌∙◌, length, sym, subst, arith}
use Rattle.in_open_nets.specs.Members.{nodes_in}
use Rattle.in_open_nets.proofs.PartsOf.Members.{IsBefore, Lists, list_next, list_past, list_end, tests_are}
use Rattle.in_open_nets.proofs.nodes.NodeList.narrowed.Goals as goal
use Rattle.in_open_nets.proofs.nodes.NodeList.narrowed.Goals.{then-has+in_ok-push, else-has}

pub loop-node-preserved : goal.loop-node-preserved
loop-node-preserved c =
    let nodes = nodes_in c.args.self.now in
    let ns = c.members-node-items.result.now in
    let listed = c.members-node-items.ensures in
    let tests = nodes_in c.args.tests.now in
    let i = c.loop-node.node-index in
    elim c.if-has.branch [
      | then-has+in_ok-push w ↦
          subst (Lists (IsBefore nodes ns listed tests c.requires.within (i + 1))) (sym (w.members-is ∙ w.in_ok-push.ensures.ok))
          (list_next nodes ns listed tests c.requires.within i c.loop-node.members c.loop-node-test.true c.loop-node.invariant (sym c.has.ensures ∙ w.if-has.true))
      | else-has w ↦
          subst (Lists (IsBefore nodes ns listed tests c.requires.within (i + 1))) (sym w.members-is)
          (list_past nodes ns listed tests c.requires.within i c.loop-node.members c.loop-node-test.true c.loop-node.invariant (sym c.has.ensures ∙ w.if-has.false))
    ]

pub invariant_of-result : goal.invariant_of-result
invariant_of-result c =
    let nodes = nodes_in c.args.self.now in
    let ns = c.members-node-items.result.now in
    let listed = c.members-node-items.ensures in
    let tests = c.args.tests.now in
    let f = c.loop-node-test.false in
    let g = c.loop-node.auto in
    let end : c.loop-node.node-index ≡ length ns = omega arith in
    let l = list_end nodes ns listed (nodes_in tests) c.requires.within c.loop-node.members (subst (λ z. Lists (IsBefore nodes ns listed (nodes_in tests) c.requires.within z) c.loop-node.members) end c.loop-node.invariant) in
    (tests_are tests c.loop-node.members l c.len.result c.len.ensures).1

pub returns : goal.returns
returns c =
    let nodes = nodes_in c.args.self.now in
    let ns = c.members-node-items.result.now in
    let listed = c.members-node-items.ensures in
    let tests = c.args.tests.now in
    let f = c.loop-node-test.false in
    let g = c.loop-node.auto in
    let end : c.loop-node.node-index ≡ length ns = omega arith in
    let l = list_end nodes ns listed (nodes_in tests) c.requires.within c.loop-node.members (subst (λ z. Lists (IsBefore nodes ns listed (nodes_in tests) c.requires.within z) c.loop-node.members) end c.loop-node.invariant) in
    (tests_are tests c.loop-node.members l c.len.result c.len.ensures).0
