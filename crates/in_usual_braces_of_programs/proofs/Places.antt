-- The place that is number k of its class.
use Rattle.std.proofs.Common.{◌≡◌, ◌≢◌, ◌≤◌, ℕ, zero, suc, Bool, true, false, ◌&&◌, not, cond, nat_eq, Option, Some, refl, sym, ap, inl, inr, ◌∙◌, arith}
use Rattle.std.specs.Prelude.{option_map}
use Rattle.std.proofs.lemmas.Bool.Decides.{eqb_tells}
use Rattle.in_symbols.specs.Tables.{Tables, class_at}
use Rattle.in_symbols.specs.declared.symbols.PortType.{PortType}
use Rattle.in_typing.specs.Typed.{opposite}
use Rattle.in_open_nets_of_programs.specs.OpeningRules.{places_in}
use Rattle.in_open_nets_of_programs.proofs.Public.{same_place}
use Rattle.in_base.proofs.Places.{some_same}
use Rattle.in_usual_braces_of_programs.specs.Signs.{place_of_class}

same_test : (a b c d : ℕ) → a ≡ b → c ≡ d → (nat_eq a b && nat_eq c d) ≡ true
same_test a b c d e f = elim (eqb_tells a b) [
  | inl h ↦ elim (eqb_tells c d) [ inl k ↦ let u : nat_eq a b ≡ true = h.0 in let v : nat_eq c d ≡ true = k.0 in rw u v | inr k ↦ absurd (k.1 f) ]
  | inr h ↦ absurd (h.1 e)
]

other_test : (a b c d : ℕ) → ((a ≡ b) × (c ≡ d) → ⊥) → (nat_eq a b && nat_eq c d) ≡ false
other_test a b c d differ = elim (eqb_tells a b) [
  | inl h ↦ elim (eqb_tells c d) [ inl k ↦ absurd (differ (h.1, k.1)) | inr k ↦ let u : nat_eq a b ≡ true = h.0 in let v : nat_eq c d ≡ false = k.0 in rw u v ]
  | inr h ↦ let u : nat_eq a b ≡ false = h.0 in rw u refl
]

-- it is found
pub place_found : (t : Tables) (s c i n : ℕ) → suc i ≤ n → class_at t s (suc i) ≡ c → place_of_class t s c (places_in t s c i) n ≡ suc i
place_found t s c i zero l e = absurd (omega arith)
place_found t s c i (suc n) l e = elim (eqb_tells i n) [
  | inl h ↦
      let same : suc n ≡ suc i = ap suc (sym h.1) in
      let k = same_test (class_at t s (suc n)) c (places_in t s c n) (places_in t s c i) (ap (class_at t s) same ∙ e) (ap (places_in t s c) (sym h.1)) in
      ap (λ z. cond z (suc n) (place_of_class t s c (places_in t s c i) n)) k ∙ same
  | inr h ↦
      let differ = h.1 in
      let k = other_test (class_at t s (suc n)) c (places_in t s c n) (places_in t s c i) (λ r. differ (same_place t s c i n e r.0 (sym r.1))) in
      ap (λ z. cond z (suc n) (place_of_class t s c (places_in t s c i) n)) k ∙ place_found t s c i n (omega arith) e
]

-- ---- signs

pub negated : (b c : Bool) → not b ≡ c → b ≡ not c
negated true true e = cc
negated true false e = refl
negated false true e = refl
negated false false e = cc

not_same : (b : Bool) → b ≡ not b → ⊥
not_same true e = cc
not_same false e = cc

-- types that are opposite have different signs
pub signs_differ : (a b : Bool) (s u : Option PortType) (x y : PortType) → s ≡ option_map opposite u → s ≡ Some x → u ≡ Some y → a ≡ x.output → b ≡ y.output → a ≢ b
signs_differ a b s u x y fits is_x is_y e f same =
    let h : x ≡ opposite y = some_same s x (opposite y) is_x (fits ∙ ap (option_map opposite) is_y) in
    not_same y.output (sym f ∙ sym same ∙ e ∙ ap (λ (z : PortType). z.output) h)
