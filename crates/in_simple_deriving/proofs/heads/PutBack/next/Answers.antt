use Rattle.std.proofs.Common.{◌≡◌, ◌<◌, ◌-◌, suc, length, slice_set, sym, subst, ap, ◌∙◌, arith}
use Rattle.in_simple_deriving.specs.Heads.{AreHeads, IsMeeting, IsUp, MeetsTo, PutBackTo}
use Rattle.in_simple_deriving.specs.Turns.{turn_of}
use Rattle.in_simple_deriving.proofs.Meetings.{heads_more, meets_start}
use Rattle.in_simple_deriving.proofs.heads.PutBack.next.Goals as goal

pub invariant_of-meeting : goal.invariant_of-meeting
invariant_of-meeting c =
    let x = c.self.inside.order.now in
    let n = c.node-node.result in
    let t = c.self.inside.turn in
    let h = c.node-node.ensures.turns in
    let some = subst (λ (z : PutBackTo). 0 < z.turn) (sym c.self.view_is) c.requires in
    let most = c.self.invariant.0 in
    let at = c.node-node.ensures.node in
    let r = h.node (t - 1) (omega arith) in
    let small = subst (λ z. z < length x.net.nodes) (sym at) r.0 in
    let same : turn_of x n ≡ t - 1 = ap (turn_of x) at ∙ r.1 in
    let next : t ≡ suc (turn_of x n) = omega arith in
    subst (IsMeeting x n 0) (sym c.set-2.ensures) (meets_start x h n c.self.inside.up small (subst (λ z. IsUp x z c.self.inside.up) next (c.self.invariant.1 some)))

pub invariant_of-result : goal.invariant_of-result
invariant_of-result c =
    let x = c.self.inside.order.now in
    let n = c.node-node.result in
    let t = c.self.inside.turn in
    let h = c.node-node.ensures.turns in
    let some = subst (λ (z : PutBackTo). 0 < z.turn) (sym c.self.view_is) c.requires in
    let most = c.self.invariant.0 in
    let at = c.node-node.ensures.node in
    let r = h.node (t - 1) (omega arith) in
    let small = subst (λ z. z < length x.net.nodes) (sym at) r.0 in
    let same : turn_of x n ≡ t - 1 = ap (turn_of x) at ∙ r.1 in
    let next : t ≡ suc (turn_of x n) = omega arith in
    let e = c.in_ok-all.ensures.next in
    let up = subst (λ (z : MeetsTo). 0 < turn_of z.order z.node → IsUp z.order (turn_of z.order z.node) c.into_up-up.result) e c.into_up-up.ensures in
    let heads = heads_more x h n c.self.inside.first c.self.inside.met c.all.new.met small (subst (λ z. AreHeads x z c.self.inside.first c.self.inside.met) next c.self.invariant.2) c.in_ok-all.ensures.met in (
      omega arith,
      (λ later. subst (λ z. IsUp x z c.into_up-up.result) same (up (omega arith))),
      subst (λ z. AreHeads x z c.set.new.self c.all.new.met) same (subst (λ z. AreHeads x (turn_of x n) z c.all.new.met) (ap (slice_set c.self.inside.first n) (sym c.len-start.ensures) ∙ sym c.set.ensures) heads),
    )
