-- Free ends that get their partners, one by one.
use Rattle.std.proofs.Common.{◌≡◌, ◌⊎◌, inl, inr, ◌+◌, ◌<◌, ◌≤◌, ℕ, Option, Some, None, List, length, slice_get, get_or, refl, sym, ap, ◌∙◌, arith}
use Rattle.std.proofs.Math.ListN.{set, length-set}
use Rattle.std.proofs.lemmas.Option.{slice_get_cases, slice_get_past, slice_get_within, slice_get_read, get_or_from_slice_get}
use Rattle.in_base.proofs.Places.{set_here, set_there, some_same}
use Rattle.in_net.proofs.WholeNets.SameNet.{all_same}
use Rattle.in_net.specs.Parts.{Parts}
use Rattle.in_net.specs.Renewing.{IsRenewed, Rejoins, renewed}
use Rattle.in_net.specs.declared.nets.Cell.{Cell}
use Rattle.in_net.specs.declared.nets.Wire.{Wire}
use Rattle.in_net.specs.declared.nets.FreeEnd.{FreeEnd}
use Rattle.in_net.specs.declared.nets.Point.{Point}

-- one free end more has its partner
pub record AreRejoinedTo (ends : List Point) (old new : List FreeEnd) (count : ℕ) : Type 0 where
  pub many : length new ≡ length old
  pub each : (k : ℕ) (f : FreeEnd) (q : Point) → k < count → slice_get old k ≡ Some f → slice_get ends k ≡ Some q → slice_get new k ≡ Some (record { name = f.name; kind = f.kind; end = q })
  pub rest : (k : ℕ) (f : FreeEnd) → count ≤ k → slice_get old k ≡ Some f → slice_get new k ≡ Some f

pub one_rejoined : (ends : List Point) (old new : List FreeEnd) (k : ℕ) (got : FreeEnd) (d : Point) → AreRejoinedTo ends old new k → k < length ends → length ends ≡ length old → got ≡ get_or new k got →
    AreRejoinedTo ends old (set new k (record { name = got.name; kind = got.kind; end = get_or ends k d })) (k + 1)
one_rejoined ends old new k got d h lt many is = record {
  many = length-set new k made ∙ h.many;
  each = λ j f q less at end. each j f q at end (by_last j less);
  rest = λ j f le at. set_there new k j made (λ e. absurd (omega (arith, le, e))) ∙ h.rest j f (omega (arith, le)) at;
}
  where
    made : FreeEnd
    made = record { name = got.name; kind = got.kind; end = get_or ends k d }

    within_new : k < length new
    within_new = let n = h.many in omega (arith, n, many, lt)

    by_last : (j : ℕ) → j < k + 1 → (j < k) ⊎ (j ≡ k)
    by_last j l = grind arith

    each : (j : ℕ) (f : FreeEnd) (q : Point) → slice_get old j ≡ Some f → slice_get ends j ≡ Some q → (j < k) ⊎ (j ≡ k) → slice_get (set new k made) j ≡ Some (record { name = f.name; kind = f.kind; end = q })
    each j f q at end (inl l) = set_there new k j made (λ e. absurd (omega (arith, l, e))) ∙ h.each j f q l at end
    each j f q at end (inr e) =
        let old_one : got ≡ f = some_same (slice_get new k) got f (slice_get_read new _ k got refl within_new is) (h.rest k f (omega arith) (ap (slice_get old) (sym e) ∙ at)) in
        let partner : get_or ends k d ≡ q = get_or_from_slice_get ends k q d (ap (slice_get ends) (sym e) ∙ end) in
        ap (slice_get (set new k made)) e ∙ set_here new k made within_new ∙ ap (λ (g : FreeEnd). let u : FreeEnd = record { name = g.name; kind = g.kind; end = get_or ends k d } in Some u) old_one
        ∙ ap (λ (p : Point). let u : FreeEnd = record { name = f.name; kind = f.kind; end = p } in Some u) partner

pub none_rejoined : (ends : List Point) (old : List FreeEnd) → AreRejoinedTo ends old old 0
none_rejoined ends old = record { many = refl; each = λ k f q lt at end. absurd (omega (arith, lt)); rest = λ k f le at. at }

pub rejoins : (ends : List Point) (old new : List FreeEnd) (k : ℕ) → AreRejoinedTo ends old new k → length ends ≤ k → Rejoins ends old new
rejoins ends old new k h le = record { many = h.many; each = λ j f q at end. h.each j f q (let l = slice_get_within ends j q end in omega (arith, l, le)) at end }

-- a free end gets one partner, and so a net becomes one
rejoined_once : (ends : List Point) (old new other : List FreeEnd) → length ends ≡ length old → Rejoins ends old new → Rejoins ends old other → new ≡ other
rejoined_once ends old new other all h k = all_same new other (λ i. at i (slice_get_cases old i).1 (slice_get_cases ends i).1)
  where
    Found : {X : Type 0} → List X → ℕ → Type 0
    Found {X} xs i = ((x : X) × (i < length xs) × (slice_get xs i ≡ Some x) × (get_or xs i x ≡ x)) ⊎ ((length xs ≤ i) × (slice_get xs i ≡ None))

    at : (i : ℕ) → Found old i → Found ends i → slice_get new i ≡ slice_get other i
    at i (inl f) (inl q) = h.each i f.0 q.0 f.2 q.2 ∙ sym (k.each i f.0 q.0 f.2 q.2)
    at i (inl f) (inr e) = let lt = f.1 in let le = e.0 in absurd (omega (arith, all, lt, le))
    at i (inr e) q = let le = e.0 in let m = h.many in let n = k.many in slice_get_past new i (omega (arith, le, m)) ∙ sym (slice_get_past other i (omega (arith, le, n)))

pub renewed_once : (old n m : Parts) (cells : List (Option Cell)) (ends : List Point) (wires : List Wire) → length ends ≡ length old.free → IsRenewed old cells ends wires n → IsRenewed old cells ends wires m → n ≡ m
renewed_once old n m cells ends wires all h k = h.2 ∙ ap (λ free. renewed cells free wires) (rejoined_once ends old.free h.0 k.0 all h.1 k.1) ∙ sym k.2
