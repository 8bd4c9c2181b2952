use Rattle.std.proofs.Common.{◌<◌, ◌+◌, length, slice_set, sym, subst, ◌∙◌, arith}
use Rattle.in_simple_deriving.specs.Heads.{IsAtTurn, IsMeeting, MeetsAt, MeetsTo}
use Rattle.in_simple_deriving.specs.Turns.{turn_of}
use Rattle.in_simple_deriving.proofs.Meetings.{meet_again, meet_gone, meet_head}
use Rattle.in_simple_deriving.proofs.heads.Meeting.meet.Goals as goal
use Rattle.in_simple_deriving.proofs.heads.Meeting.meet.Goals.{then-turn, else-turn+then-head-node, else-turn+else-head-node}

both : (c : goal.Joined-turn) → IsMeeting c.self.inside.order.now c.self.inside.node (c.self.inside.turn + 1) c.if-turn.up × MeetsAt c.self.inside.order.now c.self.inside.node c.self.inside.turn c.if-turn.met
both c =
    let x = c.self.inside.order.now in
    let n = c.self.inside.node in
    let k = c.self.inside.turn in
    let up = c.self.inside.up in
    let near = c.args.near in
    let h = c.turn.ensures.turns in
    let i = c.self.invariant in
    let at = subst (λ (z : MeetsTo). IsAtTurn z.order.net z.node z.turn near) (sym c.self.view_is) c.requires.at in
    let small = subst (λ (z : MeetsTo). near < length z.order.net.nodes) (sym c.self.view_is) c.requires.small in
    let a = c.turn.ensures.turn in
    let b = c.turn-2.ensures.turn in
    elim c.if-turn.branch [
      | then-turn w ↦
          let l = w.if-turn.true in
          let r = meet_gone x h n k up i near at (omega arith) in
          subst (λ z. IsMeeting x n (k + 1) z × MeetsAt x n k c.if-turn.met) (sym w.up-is) (subst (λ z. IsMeeting x n (k + 1) up × MeetsAt x n k z) (sym w.met-is) r)
      | else-turn+then-head-node w ↦
          let l = w.if-turn.false in
          let e = w.climb-head.ensures in
          let later : turn_of x n < turn_of x near = omega arith in
          let r = meet_again x h n k up i near at small later w.climb-head.new.up w.climb-head.result e.climbs e.shorter e.up w.if-head-node.true in
          subst (λ z. IsMeeting x n (k + 1) z × MeetsAt x n k c.if-turn.met) (sym w.up-is) (subst (λ z. IsMeeting x n (k + 1) w.climb-head.new.up × MeetsAt x n k z) (sym w.met-is) r)
      | else-turn+else-head-node w ↦
          let l = w.if-turn.false in
          let e = w.climb-head.ensures in
          let later : turn_of x n < turn_of x near = omega arith in
          let r = meet_head x h n k up i near at small later w.climb-head.new.up w.climb-head.result e.climbs e.shorter e.up w.if-head-node.false e.top in
          subst (λ z. IsMeeting x n (k + 1) z × MeetsAt x n k c.if-turn.met) (sym (w.up-is ∙ w.set.ensures)) (subst (λ z. IsMeeting x n (k + 1) (slice_set w.climb-head.new.up w.climb-head.result n) × MeetsAt x n k z) (sym w.met-is) r)
    ]

pub invariant_of-next : goal.invariant_of-next
invariant_of-next c = (both c).0

pub returns-clause-met : goal.returns-clause-met
returns-clause-met c = subst (λ (z : MeetsTo). MeetsAt z.order z.node z.turn c.if-turn.met) c.self.view_is (both c).1
