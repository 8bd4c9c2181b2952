-- Refused rules aren't complete, and have one first fault.
use Rattle.std.proofs.Common.{◌≡◌, ◌⊎◌, ℕ, ◌<◌, ◌≤◌, List, Option, Err, slice_get, sym, ◌∙◌, ap, inl, inr, arith}
use Rattle.std.proofs.lemmas.Bool.{cases_order}
use Rattle.std.proofs.lemmas.Option.{same_Some}
use Rattle.in_syntax.specs.declared.faults.Code.{Code}
use Rattle.in_syntax.specs.declared.faults.Fault.TheVariants.{Refused}
use Rattle.in_syntax.specs.declared.faults.Refusal.{Refusal}
use Rattle.in_syntax.specs.declared.places.Place.{Place}
use Rattle.in_symbols.specs.Tables.{Tables, place_of}
use Rattle.in_net.specs.Rules.{RuleParts}
use Rattle.in_cover.specs.Cover.{IsComplete, IsSecond, IsFirstSecond, IsFirstMissing, second_at, Covers}

second_twice : (t : Tables) (rules : List RuleParts) (k : ℕ) → IsSecond rules k → IsComplete t rules → ⊥
second_twice t rules k h complete = omega (arith, h.is_before, complete.at_most_one h.c h.d h.before k h.one h.other)

pub incomplete : (t : Tables) (rules : List RuleParts) (r : Refusal) → Covers t rules (Err (Refused r)) → IsComplete t rules → ⊥
incomplete t rules r (inl h) complete = second_twice t rules h.number h.second complete
incomplete t rules r (inr h) complete =
    let one = complete.at_least_one h.1.later h.1.earlier h.1.missing.pair in
    h.1.missing.unruled one.0 one.1

-- ---- one first second rule

same_first : (rules : List RuleParts) (r s : Refusal) (h : IsFirstSecond rules r) (k : IsFirstSecond rules s) → (h.number ≡ k.number) ⊎ ((h.number < k.number) ⊎ (k.number < h.number)) → r ≡ s
same_first rules r s h k (inl same) =
    h.refused ∙ ap second_at (same_Some h.rule k.rule (sym h.stands ∙ ap (slice_get rules) same ∙ k.stands)) ∙ sym k.refused
same_first rules r s h k (inr (inl lt)) = absurd (k.first h.number lt h.second)
same_first rules r s h k (inr (inr lt)) = absurd (h.first k.number lt k.second)

-- ---- one first pair without a rule

same_refusal : (c d : Code) (p q : Place) (o o' : Option Place) → c ≡ d → p ≡ q → o ≡ o' → let r : Refusal = record { code = c; place = p; other = o } in r ≡ record { code = d; place = q; other = o' }
same_refusal c d p q o o' a b e = cc

same_two : (a b c d : ℕ) → (a < c) ⊎ ((a ≡ c) × (b ≤ d)) → (c < a) ⊎ ((c ≡ a) × (d ≤ b)) → (a ≡ c) × (b ≡ d)
same_two a b c d (inl h) (inl k) = absurd (omega (arith, h, k))
same_two a b c d (inl h) (inr k) = absurd (omega (arith, h, k.0))
same_two a b c d (inr h) (inl k) = absurd (omega (arith, h.0, k))
same_two a b c d (inr h) (inr k) = (h.0, omega (arith, h.1, k.1))

same_missing : (t : Tables) (rules : List RuleParts) (r s : Refusal) → IsFirstMissing t rules r → IsFirstMissing t rules s → r ≡ s
same_missing t rules r s h k =
    let same = same_two h.later h.earlier k.later k.earlier (h.first k.later k.earlier k.missing) (k.first h.later h.earlier h.missing) in
    same_refusal r.code s.code r.place s.place r.other s.other (h.refused.code ∙ sym k.refused.code)
    (same_Some r.place s.place (h.refused.place ∙ ap (place_of t) same.0 ∙ sym k.refused.place))
    (h.refused.other ∙ ap (place_of t) same.1 ∙ sym k.refused.other)

pub one_refusal : (t : Tables) (rules : List RuleParts) (r s : Refusal) → Covers t rules (Err (Refused r)) → Covers t rules (Err (Refused s)) → r ≡ s
one_refusal t rules r s (inl h) (inl k) = same_first rules r s h k (cases_order h.number k.number)
one_refusal t rules r s (inl h) (inr k) = absurd (k.0 h.number h.second)
one_refusal t rules r s (inr h) (inl k) = absurd (h.0 k.number k.second)
one_refusal t rules r s (inr h) (inr k) = same_missing t rules r s h.1 k.1
