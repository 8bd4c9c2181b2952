-- The free ends of a net in two parts, by their numbers in the whole and in their part.
use Rattle.std.proofs.Common.{◌≡◌, ◌⊎◌, inl, inr, ◌<◌, ◌≤◌, ◌+◌, ◌-◌, ℕ, zero, suc, Option, Some, length, slice_get, refl, sym, ap, ◌∙◌, length-append, arith}
use Rattle.std.proofs.lemmas.Bool.{cases_lt}
use Rattle.std.proofs.lemmas.Bool.Decides.{nat_tests}
use Rattle.std.proofs.lemmas.Option.{same_Some, slice_get_within}
use Rattle.in_base.proofs.Places.{kept_at}
use Rattle.in_cells.specs.Laws.{ends_of}
use Rattle.in_reducer.specs.Parting.{by_turns, ends_of_two, place_of_two}
use Rattle.in_cells.proofs.Public.{length-ends_of, ends_there, past_first}

-- ---- the two lists

length-by_turns : (own j w : ℕ) → length (by_turns own j w) ≡ w + w
length-by_turns own j zero = refl
length-by_turns own j (suc w) = ap (λ (z : ℕ). suc (suc z)) (length-by_turns own (suc j) w) ∙ (let z : suc (suc (w + w)) ≡ suc w + suc w = omega arith in z)

first_by_turns : (own j w v : ℕ) → v < w → slice_get (by_turns own j w) (v + v) ≡ Some (1, j + v)
first_by_turns own j zero v l = absurd (omega (arith, l))
first_by_turns own j (suc w) zero l = ap (λ (z : ℕ). let p : ℕ × ℕ = (1, z) in Some p) (let z : j ≡ j + 0 = omega arith in z)
first_by_turns own j (suc w) (suc v) l =
    ap (slice_get (by_turns own j (suc w))) (let z : suc v + suc v ≡ suc (suc (v + v)) = omega arith in z) ∙ first_by_turns own (suc j) w v (omega (arith, l))
    ∙ ap (λ (z : ℕ). let p : ℕ × ℕ = (1, z) in Some p) (let z : suc j + v ≡ j + suc v = omega arith in z)

second_by_turns : (own j w v : ℕ) → v < w → slice_get (by_turns own j w) (suc (v + v)) ≡ Some (0, own + (j + v))
second_by_turns own j zero v l = absurd (omega (arith, l))
second_by_turns own j (suc w) zero l = ap (λ (z : ℕ). let p : ℕ × ℕ = (0, z) in Some p) (let z : own + j ≡ own + (j + 0) = omega arith in z)
second_by_turns own j (suc w) (suc v) l =
    ap (slice_get (by_turns own j (suc w))) (let z : suc (suc v + suc v) ≡ suc (suc (suc (v + v))) = omega arith in z) ∙ second_by_turns own (suc j) w v (omega (arith, l))
    ∙ ap (λ (z : ℕ). let p : ℕ × ℕ = (0, z) in Some p) (let z : own + (suc j + v) ≡ own + (j + suc v) = omega arith in z)

-- ---- both

pub many_of_two : (own cuts : ℕ) → length (ends_of_two own cuts) ≡ own + (cuts + cuts)
many_of_two own cuts =
    let e = length-append (ends_of 0 0 own) (by_turns own 0 cuts) in
    let f = length-ends_of 0 0 own in
    let g = length-by_turns own 0 cuts in
    omega (arith, e, f, g)

after_own : (own cuts k : ℕ) → slice_get (ends_of_two own cuts) (own + k) ≡ slice_get (by_turns own 0 cuts) k
after_own own cuts k = ap (λ (z : ℕ). slice_get (ends_of_two own cuts) (z + k)) (sym (length-ends_of 0 0 own)) ∙ past_first (ends_of 0 0 own) (by_turns own 0 cuts) k

-- the free ends from before the cuts
pub own_of_two : (own cuts k : ℕ) → k < own → slice_get (ends_of_two own cuts) k ≡ Some (0, k)
own_of_two own cuts k l =
    kept_at (ends_of 0 0 own) (by_turns own 0 cuts) k (0, k)
    (ends_there 0 0 own k l ∙ ap (λ (z : ℕ). let p : ℕ × ℕ = (0, z) in Some p) (let z : 0 + k ≡ k = omega arith in z))

-- the first end of a cut, and the second one
pub first_of_two : (own cuts j : ℕ) → j < cuts → slice_get (ends_of_two own cuts) (own + (j + j)) ≡ Some (1, j)
first_of_two own cuts j l = after_own own cuts (j + j) ∙ first_by_turns own 0 cuts j l ∙ ap (λ (z : ℕ). let p : ℕ × ℕ = (1, z) in Some p) (let z : 0 + j ≡ j = omega arith in z)

pub second_of_two : (own cuts j : ℕ) → j < cuts → slice_get (ends_of_two own cuts) (own + suc (j + j)) ≡ Some (0, own + j)
second_of_two own cuts j l = after_own own cuts (suc (j + j)) ∙ second_by_turns own 0 cuts j l ∙ ap (λ (z : ℕ). let p : ℕ × ℕ = (0, own + z) in Some p) (let z : 0 + j ≡ j = omega arith in z)

-- the free end of the whole, by its part and its number there
pub data OneOfTwo (own cuts k i e : ℕ) : Type 0 where
  of_own : k < own → i ≡ 0 → e ≡ k → OneOfTwo own cuts k i e
  of_first : (j : ℕ) → j < cuts → k ≡ own + (j + j) → i ≡ 1 → e ≡ j → OneOfTwo own cuts k i e
  of_second : (j : ℕ) → j < cuts → k ≡ own + suc (j + j) → i ≡ 0 → e ≡ own + j → OneOfTwo own cuts k i e

-- a number is twice another one, or one more
pub data HalfOf (k : ℕ) : Type 0 where
  twice : (j : ℕ) → k ≡ j + j → HalfOf k
  one_more : (j : ℕ) → k ≡ suc (j + j) → HalfOf k

pub half_of : (k : ℕ) → HalfOf k
half_of zero = twice 0 refl
half_of (suc k) = elim (half_of k) [
  | twice j e ↦ one_more j (ap suc e)
  | one_more j e ↦ twice (suc j) (omega (arith, e))
]

pub which_of_two : (own cuts k i e : ℕ) → slice_get (ends_of_two own cuts) k ≡ Some (i, e) → OneOfTwo own cuts k i e
which_of_two own cuts k i e at = go (cases_lt k own)
  where
    within : k < own + (cuts + cuts)
    within = let l = slice_get_within (ends_of_two own cuts) k (i, e) at in let m = many_of_two own cuts in omega (arith, l, m)

    part : (j d : ℕ) → ◌≡◌ {A = Option (ℕ × ℕ)} (Some (i, e)) (Some (j, d)) → (i ≡ j) × (e ≡ d)
    part j d f = let g : (i, e) ≡ (j, d) = same_Some (i, e) (j, d) f in (ap (λ (p : ℕ × ℕ). p.0) g, ap (λ (p : ℕ × ℕ). p.1) g)

    later : own ≤ k → HalfOf (k - own) → OneOfTwo own cuts k i e
    later l (twice j f) =
        let is : k ≡ own + (j + j) = omega (arith, l, f) in
        let low : j < cuts = omega (arith, within, is) in
        let p = part 1 j (sym at ∙ ap (slice_get (ends_of_two own cuts)) is ∙ first_of_two own cuts j low) in
        of_first j low is p.0 p.1
    later l (one_more j f) =
        let is : k ≡ own + suc (j + j) = omega (arith, l, f) in
        let low : j < cuts = omega (arith, within, is) in
        let p = part 0 (own + j) (sym at ∙ ap (slice_get (ends_of_two own cuts)) is ∙ second_of_two own cuts j low) in
        of_second j low is p.0 p.1

    go : (k < own) ⊎ (own ≤ k) → OneOfTwo own cuts k i e
    go (inl l) = let p = part 0 k (sym at ∙ own_of_two own cuts k l) in of_own l p.0 p.1
    go (inr l) = later l (half_of (k - own))

-- ---- the number in the whole

pub place_own : (own e : ℕ) → e < own → place_of_two own 0 e ≡ e
place_own own e l = grind (arith, nat_tests, l)

pub place_second : (own j : ℕ) → place_of_two own 0 (own + j) ≡ own + suc (j + j)
place_second own j = grind (arith, nat_tests)

pub places_of_two : (own cuts k i e : ℕ) → slice_get (ends_of_two own cuts) k ≡ Some (i, e) → place_of_two own i e ≡ k
places_of_two own cuts k i e at = elim (which_of_two own cuts k i e at) [
  | of_own l p q ↦ (λ t. place_of_two own (p t) (q t)) ∙ place_own own k l
  | of_first j l is p q ↦ (λ t. place_of_two own (p t) (q t)) ∙ sym is
  | of_second j l is p q ↦ (λ t. place_of_two own (p t) (q t)) ∙ place_second own j ∙ sym is
]

-- each free end of the rest has its number, and each of the part
pub rest_of_two : (own cuts e : ℕ) → e < own + cuts → slice_get (ends_of_two own cuts) (place_of_two own 0 e) ≡ Some (0, e)
rest_of_two own cuts e l = go (cases_lt e own)
  where
    go : (e < own) ⊎ (own ≤ e) → slice_get (ends_of_two own cuts) (place_of_two own 0 e) ≡ Some (0, e)
    go (inl h) = ap (slice_get (ends_of_two own cuts)) (place_own own e h) ∙ own_of_two own cuts e h
    go (inr h) =
        let is : e ≡ own + (e - own) = omega (arith, h) in
        let low : e - own < cuts = omega (arith, h, l) in
        ap (λ (z : ℕ). slice_get (ends_of_two own cuts) (place_of_two own 0 z)) is ∙ ap (slice_get (ends_of_two own cuts)) (place_second own (e - own)) ∙ second_of_two own cuts (e - own) low
        ∙ ap (λ (z : ℕ). let p : ℕ × ℕ = (0, z) in Some p) (sym is)

pub part_of_two : (own cuts e : ℕ) → e < cuts → slice_get (ends_of_two own cuts) (place_of_two own 1 e) ≡ Some (1, e)
part_of_two own cuts e l = first_of_two own cuts e l
