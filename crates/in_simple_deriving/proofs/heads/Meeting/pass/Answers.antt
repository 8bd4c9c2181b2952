use Rattle.std.proofs.Common.{ℕ, suc, sym, subst}
use Rattle.in_open_nets.specs.Constructions.{IsIn}
use Rattle.in_simple_deriving.specs.Heads.{IsAtTurn, MeetsTo}
use Rattle.in_simple_deriving.specs.Turns.{left, turn_of}
use Rattle.in_simple_deriving.proofs.Meetings.{meets_same}
use Rattle.in_simple_deriving.proofs.heads.Meeting.pass.Goals as goal

pub invariant_of-next : goal.invariant_of-next
invariant_of-next c =
    let none = subst (λ (z : MeetsTo). (l : ℕ) → IsAtTurn z.order.net z.node z.turn l → IsIn l (left z.order (suc (turn_of z.order z.node))) → ⊥) (sym c.self.view_is) c.requires.none in
    meets_same c.self.inside.order.now c.taken.ensures.turns c.self.inside.node c.self.inside.turn c.self.inside.up c.self.invariant (λ l at g. absurd (none l at g))
