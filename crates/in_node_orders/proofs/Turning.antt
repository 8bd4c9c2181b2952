-- The turns of nodes, one after another.
use Rattle.std.proofs.Common.{◌≡◌, ◌≢◌, ◌⊎◌, ◌<◌, ◌≤◌, ◌+◌, ℕ, List, length, length-set, set, Some, sym, subst, inl, inr, ◌∙◌, arith}
use Rattle.std.specs.Prelude.{slice_get}
use Rattle.std.proofs.lemmas.Bool.{cases_eq}
use Rattle.std.proofs.lemmas.Option.{get_or_from_slice_get, slice_get-get_or, slice_get_within}
use Rattle.in_base.proofs.Places.{some_same}
use Rattle.in_simple_bridges.specs.Spans.{at}
use Rattle.in_open_nets.proofs.Public.{at_other, at_set}
use Rattle.in_node_orders.specs.Turns.{AreDistinct, AreTurns, AreTurnsBelow}

pub turned : (count : ℕ) (nodes : List ℕ) (b : ℕ) (turns : List ℕ) (n : ℕ) → AreTurnsBelow count nodes b turns → b < length nodes → n ≡ at nodes b → n < count → at turns n ≡ length nodes → AreTurnsBelow count nodes (b + 1) (set turns n b)
turned count nodes b turns n t few is small free =
    let size = t.size in
    let in_turns : n < length turns = omega (arith, small, size) in
    let here : slice_get nodes b ≡ Some n = subst (λ z. slice_get nodes b ≡ Some z) (sym is) (slice_get-get_or nodes b 0 few) in
    record {
      size = length-set turns n b ∙ t.size;
      of_node = λ i m l h. elim (cases_eq i b) [
        | inl same ↦
            let e : m ≡ n = some_same (slice_get nodes b) m n (subst (λ z. slice_get nodes z ≡ Some m) same h) here in
            (omega (arith, e, small), at_set turns n b 0 m in_turns e ∙ sym same)
        | inr d ↦
            let r = t.of_node i m (omega (arith, l, d)) h in
            let at_m = r.1 in
            (r.0, at_other turns n b 0 m (λ e. let f : at turns m ≡ length nodes = subst (λ z. at turns z ≡ length nodes) (sym e) free in omega (arith, f, at_m, few, l)) ∙ at_m)
      ];
      of_turn = λ m l. elim (cases_eq m n) [
        | inl same ↦
            let e = at_set turns n b 0 m in_turns same in
            inr (omega (arith, e), subst (λ z. slice_get nodes z ≡ Some m) (sym e) (subst (λ z. slice_get nodes b ≡ Some z) (sym same) here))
        | inr d ↦ elim (t.of_turn m l) [
          | inl e ↦ inl (at_other turns n b 0 m d ∙ e)
          | inr h ↦
              let e = at_other turns n b 0 m d in
              let less = h.0 in
              inr (omega (arith, e, less), subst (λ z. slice_get nodes z ≡ Some m) (sym e) h.1)
        ]
      ];
    }

pub turns_all : (count : ℕ) (nodes : List ℕ) (b : ℕ) (turns : List ℕ) → length nodes ≤ b → AreTurnsBelow count nodes b turns → AreTurns count nodes turns
turns_all count nodes b turns most t = record {
  size = t.size;
  of_node = λ i n l h. t.of_node i n (omega (arith, l, most)) h;
  of_turn = λ n l. elim (t.of_turn n l) [ inl e ↦ inl e | inr h ↦ inr (slice_get_within nodes (at turns n) n h.1, h.1) ];
}

-- a number that is too high, or that has a turn already
pub not_distinct : (count : ℕ) (nodes : List ℕ) (b : ℕ) (turns : List ℕ) (n : ℕ) → AreTurnsBelow count nodes b turns → b < length nodes → n ≡ at nodes b → (count ≤ n) ⊎ (at turns n ≢ length nodes) → AreDistinct count nodes → ⊥
not_distinct count nodes b turns n t few is (inl high) d = let low = d.below b few in absurd (omega (arith, high, low, is))
not_distinct count nodes b turns n t few is (inr other) d =
    let low = d.below b few in
    elim (t.of_turn n (omega (arith, low, is))) [
      | inl none ↦ other none
      | inr r ↦ d.once (at turns n) b r.0 few (get_or_from_slice_get nodes (at turns n) n 0 r.1 ∙ is)
    ]
