use Rattle.std.proofs.Common.{◌≡◌, ◌<◌, sym, subst}
use Rattle.in_simple_deriving.specs.Heads.{IsMeeting, IsUp, MeetsTo, last_turn}
use Rattle.in_simple_deriving.specs.Turns.{turn_of}
use Rattle.in_simple_deriving.proofs.Meetings.{meets_end}
use Rattle.in_simple_deriving.proofs.heads.Meeting.into_up.Goals as goal

pub returns : goal.returns
returns c = λ later.
    let x = c.self.inside.order.now in
    let n = c.self.inside.node in
    let e = c.self.view_is in
    let at : c.self.inside.turn ≡ last_turn x n = subst (λ (z : MeetsTo). z.turn ≡ last_turn z.order z.node) (sym e) c.requires in
    let l = subst (λ (z : MeetsTo). 0 < turn_of z.order z.node) (sym e) later in
    subst (λ (z : MeetsTo). IsUp z.order (turn_of z.order z.node) c.self.inside.up) e (meets_end x c.taken.ensures.turns n c.self.inside.up (subst (λ z. IsMeeting x n z c.self.inside.up) at c.self.invariant) l)
