use Rattle.std.proofs.Common.{◌≤◌, ℕ, suc, sym, subst}
use Rattle.in_open_nets.specs.declared.open_nets.OpenPoint.TheVariants.{Port}
use Rattle.in_open_nets.specs.Constructions.{IsIn}
use Rattle.in_open_nets.specs.OpenNets.{IsOrderly, IsWire}
use Rattle.in_open_nets.specs.Stuck.{ports_of}
use Rattle.in_simple_deriving.specs.Heads.{IsAtTurn, MeetsTo}
use Rattle.in_simple_deriving.specs.Turns.{left, turn_of}
use Rattle.in_simple_deriving.proofs.Meetings.{no_node, no_port}
use Rattle.in_simple_deriving.proofs.heads.Meeting.port.Goals as goal

pub pass-requires-clause-none : goal.pass-requires-clause-none
pass-requires-clause-none c =
    let x = c.self.inside.order.now in
    let n = c.self.inside.node in
    let k = c.self.inside.turn in
    let o = c.wired-wired.result.now in
    let few = subst (λ z. k ≤ ports_of z n) (sym c.wired-wired.ensures) (subst (λ (z : MeetsTo). z.turn ≤ ports_of z.order.net z.node) (sym c.self.view_is) c.requires) in
    let wire = subst (λ z. IsWire o c.partner.result.0 (Port n c.in-Some.port) z) c.in_default-Free.is-1 c.partner.ensures.wire in
    let none : (l : ℕ) → IsAtTurn o n k l → ⊥ = no_node o c.partner.ensures.net.net n k c.in-Some.port c.partner.result.0 c.in_default-Free.field-0-1 few c.in-Some.ensures wire in
    let off : (l : ℕ) → IsAtTurn x.net n k l → ⊥ = subst (λ z. (l : ℕ) → IsAtTurn z n k l → ⊥) c.wired-wired.ensures none in
    subst (λ (z : MeetsTo). (l : ℕ) → IsAtTurn z.order.net z.node z.turn l → IsIn l (left z.order (suc (turn_of z.order z.node))) → ⊥) c.self.view_is (λ l at g. off l at)

pub pass-requires-in-None-clause-none : goal.pass-requires-in-None-clause-none
pass-requires-in-None-clause-none c =
    let x = c.self.inside.order.now in
    let n = c.self.inside.node in
    let k = c.self.inside.turn in
    let o = c.wired-wired.result.now in
    let few = subst (λ z. k ≤ ports_of z n) (sym c.wired-wired.ensures) (subst (λ (z : MeetsTo). z.turn ≤ ports_of z.order.net z.node) (sym c.self.view_is) c.requires) in
    let net = subst IsOrderly (sym c.wired-wired.ensures) c.taken.ensures.turns.orderly in
    let none : (l : ℕ) → IsAtTurn o n k l → ⊥ = no_port o net.net n k few c.in-None.ensures in
    let off : (l : ℕ) → IsAtTurn x.net n k l → ⊥ = subst (λ z. (l : ℕ) → IsAtTurn z n k l → ⊥) c.wired-wired.ensures none in
    subst (λ (z : MeetsTo). (l : ℕ) → IsAtTurn z.order.net z.node z.turn l → IsIn l (left z.order (suc (turn_of z.order z.node))) → ⊥) c.self.view_is (λ l at g. off l at)
