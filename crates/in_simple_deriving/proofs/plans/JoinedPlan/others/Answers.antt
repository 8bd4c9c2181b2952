use Rattle.std.proofs.Common.{◌≡◌, suc, sym, subst, ◌∙◌, arith}
use Rattle.in_simple_deriving.specs.Progress.{Progress}
use Rattle.in_open_nets.specs.Stuck.{ports_of}
use Rattle.in_simple_deriving.proofs.Begins.{ends_touched, other_next}
use Rattle.in_simple_deriving.proofs.plans.JoinedPlan.others.Goals as goal

pub invariant_of-result : goal.invariant_of-result
invariant_of-result c =
    let o = c.self.inside.wired.now in
    let n = c.self.inside.node in
    let e : c.self.inside.turn ≡ suc (ports_of o n) = subst (λ (s : Progress). s.next ≡ suc (ports_of s.net s.node)) (sym c.self.view_is) c.requires in
    ends_touched o n c.self.inside.turn c.nodes-count.result c.self.inside.plan c.self.invariant e (c.is_of_piece.ensures.piece c.if-is_of_piece.true)

pub loop-near-preserved : goal.loop-near-preserved
loop-near-preserved c =
    let o = c.self.inside.wired.now in
    let n = c.self.inside.node in
    let k = c.self.inside.turn in
    let e : k ≡ suc (ports_of o n) = subst (λ (s : Progress). s.next ≡ suc (ports_of s.net s.node)) (sym c.self.view_is) c.requires in
    let i = c.loop-near.invariant in
    let count = c.nodes-count.ensures.count in
    let less = c.loop-near-test.true in
    let r = other_next o n k c.loop-near.near c.loop-near.whole c.in_ok-whole.whole c.fate-fate.result i.plan e (omega arith) c.fate-fate.ensures c.in_ok-whole.ensures in
    record { plan = r.0; rest = r.1 ∙ i.rest; turns = r.2 ∙ i.turns }
