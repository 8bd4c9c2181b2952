use Rattle.std.proofs.Common.{◌≡◌, nat_lt, length, ltb-true, lt-ltb, subst, ap, inl, inr, ◌∙◌, arith}
use Rattle.in_open_nets.specs.Parts.{IsFirst, NoneSplits}
use Rattle.in_open_nets.proofs.Public.{at_most, not_both}
use Rattle.in_simple_deriving.specs.Turns.{HeadedPart, IsNodeTurns, NodeOrder, turn_of}
use Rattle.in_simple_deriving.proofs.HeadParts.{part_first, part_stuck}
use Rattle.in_simple_deriving.proofs.heads.Headed.is_taken_apart.Goals as goal

pub returns-clause-first : goal.returns-clause-first
returns-clause-first c = λ yes.
    let x = c.self.inside.heads.now in
    let a = c.self.inside.head in
    let less = ltb-true c.turn.result c.taken.result yes in
    let e : c.turn.result ≡ turn_of x a = c.turn.ensures.turn ∙ ap (λ z. turn_of z a) c.order-order.ensures in
    let f : c.taken.result ≡ x.taken = c.taken.ensures.taken ∙ ap (λ (z : NodeOrder). z.taken) c.order-order.ensures in
    let turns = subst IsNodeTurns c.order-order.ensures c.turn.ensures.turns in
    subst (λ (z : HeadedPart). IsFirst z.net z.nodes z.head) c.self.view_is (part_first x turns a c.self.invariant.0 (omega arith))

pub returns-clause-stuck : goal.returns-clause-stuck
returns-clause-stuck c = λ no.
    let x = c.self.inside.heads.now in
    let a = c.self.inside.head in
    let e : c.turn.result ≡ turn_of x a = c.turn.ensures.turn ∙ ap (λ z. turn_of z a) c.order-order.ensures in
    let f : c.taken.result ≡ x.taken = c.taken.ensures.taken ∙ ap (λ (z : NodeOrder). z.taken) c.order-order.ensures in
    let turns = subst IsNodeTurns c.order-order.ensures c.turn.ensures.turns in
    elim (at_most x.taken (turn_of x a)) [
      | inl le ↦ subst (λ (z : HeadedPart). NoneSplits z.net z.nodes (length z.net.nodes)) c.self.view_is (part_stuck x turns a c.self.invariant le)
      | inr less ↦ absurd (not_both (nat_lt c.turn.result c.taken.result) (lt-ltb c.turn.result c.taken.result (omega arith)) no)
    ]
