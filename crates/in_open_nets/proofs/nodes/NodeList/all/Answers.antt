use Rattle.std.proofs.Common.{◌<◌, ◌+◌, sym, subst, inl, inr, arith}
use Rattle.in_open_nets.proofs.Reached.Links.{same_nat}
use Rattle.in_open_nets.proofs.PartsOf.Members.{Lists, lists_more, tests_in, tests_listed, tests_many}
use Rattle.in_open_nets.proofs.nodes.NodeList.all.Goals as goal

pub loop-node-preserved : goal.loop-node-preserved
loop-node-preserved c =
    let k = c.loop-node.node in
    subst (Lists (λ n. n < k + 1)) (sym c.in_ok-push.ensures.ok) (lists_more (λ n. n < k) (λ n. n < k + 1) c.loop-node.members k c.loop-node.invariant (λ n h. h) (λ n. (
      (λ h. elim h [ inl a ↦ omega arith | inr e ↦ omega arith ]),
      λ h. elim (same_nat n k) [ inl e ↦ inr e | inr d ↦ inl (omega arith) ],
    )))

pub invariant_of-result : goal.invariant_of-result
invariant_of-result c =
    let f = c.loop-node-test.false in
    let g = c.loop-node.auto in
    tests_listed c.args.count c.loop-node.members c.loop-node.invariant.rises (λ n h. let a = (c.loop-node.invariant.all n).1 h in omega arith)

pub returns-clause-size : goal.returns-clause-size
returns-clause-size c = tests_many c.args.count c.loop-node.members

pub returns-clause-all : goal.returns-clause-all
returns-clause-all c =
    let f = c.loop-node-test.false in
    let g = c.loop-node.auto in
    λ n l. (tests_in c.args.count c.loop-node.members (λ n h. let a = (c.loop-node.invariant.all n).1 h in omega arith) n).1 ((c.loop-node.invariant.all n).0 (omega arith))
