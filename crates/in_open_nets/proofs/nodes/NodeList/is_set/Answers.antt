use Rattle.std.proofs.Common.{◌≡◌, ◌<◌, ◌≤◌, ◌∙◌, ℕ, length, sym, subst, arith}
use Rattle.in_open_nets.specs.Constructions.{IsIn}
use Rattle.in_open_nets.specs.Members.{missing, nodes_in}
use Rattle.in_open_nets.proofs.PartsOf.Absent.{has_all}
use Rattle.in_open_nets.proofs.PartsOf.Members.{holds_all, holds_next, lists_equal, past}
use Rattle.in_open_nets.proofs.nodes.NodeList.is_set.Goals as goal

pub loop-node-preserved : goal.loop-node-preserved
loop-node-preserved c =
    let nodes = nodes_in c.args.self.now in
    let tests = nodes_in c.args.tests.now in
    let here = sym c.has.ensures ∙ c.if-not-has.false in
    holds_next nodes c.members-node-items.result.now c.members-node-items.ensures (λ m. IsIn m nodes → IsIn m tests) (λ m out h. absurd (out h)) c.loop-node.node-index c.loop-node-test.true c.loop-node.invariant (λ h. here)

pub returns : goal.returns
returns c = λ t.
    let nodes = c.args.self.now in
    let tests = c.args.tests.now in
    let ns = c.members-node-items.result.now in
    let f = c.loop-node-test.false in
    let g = c.loop-node.auto in
    let end : c.loop-node.node-index ≡ length ns = omega arith in
    let P : ℕ → Type 0 = λ m. IsIn m (nodes_in nodes) → IsIn m (nodes_in tests) in
    let within = holds_all (nodes_in nodes) ns c.members-node-items.ensures P (λ m out h. absurd (out h)) (subst (λ z. (m : ℕ) → m < past ns z → P m) end c.loop-node.invariant) in
    let few : missing nodes ≤ missing tests = let a = c.absent.ensures in let b = c.absent-2.ensures in let d = c.if-absent.false in omega arith in
    sym (lists_equal nodes tests (sym c.requires) (λ n. (within n, has_all nodes tests (sym c.requires) within few n)))
