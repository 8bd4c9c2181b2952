-- The types of boundary ends.
use Rattle.std.proofs.Common.{◌≡◌, ◌⊎◌, inl, inr, ◌+◌, ◌-◌, ◌<◌, ◌≤◌, ℕ, zero, suc, cond, Some, List, [], ◌∷◌, ◌++◌, map, length, refl, sym, ap, ◌∙◌, arith, slice_get}
use Rattle.in_symbols.specs.declared.symbols.PortType.{PortType}
use Rattle.in_symbols.specs.Tables.{Tables, arity_of, port_at}
use Rattle.in_net.specs.declared.nets.FreeEnd.{FreeEnd}
use Rattle.in_net.specs.Interactions.{redex_at, end_symbol, end_place}
use Rattle.in_net.specs.Nets.{signature_of}
use Rattle.in_net.specs.Rules.{RuleParts, types_from, auxiliary_types}
use Rattle.in_net.proofs.Refusals.NumberTests.{lt_tells}

types_at : (t : Tables) (s i n e : ℕ) (y : PortType) → slice_get (types_from t s i n) e ≡ Some y → (y ≡ port_at t s (i + e)) × (e < n)
types_at t s i zero e y h = cc
types_at t s i (suc n) zero y h = let same : port_at t s i ≡ y = cc in (sym same ∙ ap (port_at t s) (let k : i ≡ i + 0 = omega arith in k), omega arith)
types_at t s i (suc n) (suc e) y h =
    let r = types_at t s (i + 1) n e y h in
    let l = r.1 in
    (r.0 ∙ ap (port_at t s) (let k : i + 1 + e ≡ i + suc e = omega arith in k), omega arith)

of_append : {X : Type 0} (xs ys : List X) (i : ℕ) (x : X) → slice_get (xs ++ ys) i ≡ Some x → ((i < length xs) × (slice_get xs i ≡ Some x)) ⊎ ((length xs ≤ i) × (slice_get ys (i - length xs) ≡ Some x))
of_append [] ys i x e = let k : i - 0 ≡ i = omega arith in inr (omega arith, ap (λ z. slice_get ys z) k ∙ e)
of_append (z ∷ xs) ys zero x e = inl (omega arith, e)
of_append (z ∷ xs) ys (suc i) x e = elim (of_append xs ys i x e) [ inl h ↦ inl (let k = h.0 in omega arith, h.1) | inr h ↦ inr (let k = h.0 in omega arith, (let k : suc i - suc (length xs) ≡ i - length xs = omega arith in ap (λ z. slice_get ys z) k) ∙ h.1) ]

pub types_many : (t : Tables) (s i n : ℕ) → length (types_from t s i n) ≡ n
types_many t s i zero = refl
types_many t s i (suc n) = ap suc (types_many t s (i + 1) n)

pub declared_at : (t : Tables) (p : RuleParts) (one two : ℕ) → map (λ (f : FreeEnd). f.kind) p.member.free ≡ auxiliary_types t p.heads.0.0 ++ auxiliary_types t p.heads.1.0 → (e : ℕ) (y : PortType) →
    slice_get (map (λ (f : FreeEnd). f.kind) p.member.free) e ≡ Some y → y ≡ port_at t (end_symbol (signature_of t) (redex_at p one two) e) (end_place (signature_of t) (redex_at p one two) e)
declared_at t p one two types e y h = elim (of_append (auxiliary_types t p.heads.0.0) (auxiliary_types t p.heads.1.0) e y (ap (λ z. slice_get z e) (sym types) ∙ h)) [
  | inl k ↦
      let many = types_many t p.heads.0.0 1 (arity_of t p.heads.0.0) in
      let r = types_at t p.heads.0.0 1 (arity_of t p.heads.0.0) e y k.1 in
      let less = k.0 in
      let place : 1 + e ≡ suc e = omega arith in
      elim (lt_tells e (arity_of t p.heads.0.0)) [
        | inl l ↦ r.0 ∙ ap (port_at t p.heads.0.0) place ∙ sym (ap (λ z. port_at t (cond z p.heads.0.0 p.heads.1.0) (cond z (suc e) (suc (e - arity_of t p.heads.0.0)))) l.0)
        | inr l ↦ let m = l.1 in absurd (omega arith)
      ]
  | inr k ↦
      let many = types_many t p.heads.0.0 1 (arity_of t p.heads.0.0) in
      let r = types_at t p.heads.1.0 1 (arity_of t p.heads.1.0) (e - length (auxiliary_types t p.heads.0.0)) y k.1 in
      let more = k.0 in
      let place : 1 + (e - length (auxiliary_types t p.heads.0.0)) ≡ suc (e - arity_of t p.heads.0.0) = omega arith in
      elim (lt_tells e (arity_of t p.heads.0.0)) [
        | inl l ↦ let m = l.1 in absurd (omega arith)
        | inr l ↦ r.0 ∙ ap (port_at t p.heads.1.0) place ∙ sym (ap (λ z. port_at t (cond z p.heads.0.0 p.heads.1.0) (cond z (suc e) (suc (e - arity_of t p.heads.0.0)))) l.0)
      ]
]
