-- The spots of a name before a spot, and one spot more.
use Rattle.std.proofs.Common.{◌≡◌, ◌⊎◌, inl, inr, ℕ, ◌+◌, ◌<◌, ◌≤◌, List, Some, subst, arith}
use Rattle.std.proofs.lemmas.Bool.{cases_lt}
use Rattle.in_net.specs.declared.reading.TextSpot.{TextSpot}
use Rattle.in_net.specs.declared.counting.Seen.{Seen}
use Rattle.in_net.specs.declared.counting.Seen.TheVariants.{Never, Once, Twice, Often}
use Rattle.in_net.specs.Counting.{name_of, seen_again}
use Rattle.in_net.specs.Building.{nth_spot}

-- the spot of that number has the name
abbrev pub Has : List TextSpot → ℕ → ℕ → Type 0
Has spots m i = name_of (nth_spot spots i) ≡ Some m

-- the count of a name before a spot
abbrev pub IsStanding : List TextSpot → ℕ → ℕ → Seen → Type 0
IsStanding spots at m Never = (i : ℕ) → i < at → Has spots m i → ⊥
IsStanding spots at m (Once a) = (a < at) × Has spots m a × ((i : ℕ) → i < at → Has spots m i → i ≡ a)
IsStanding spots at m Twice = (a : ℕ) × (b : ℕ) × (a < b) × (b < at) × Has spots m a × Has spots m b × ((i : ℕ) → i < at → Has spots m i → (i ≡ a) ⊎ (i ≡ b))
IsStanding spots at m Often = (a : ℕ) × (b : ℕ) × (c : ℕ) × (a < b) × (b < c) × (c < at) × Has spots m a × Has spots m b × Has spots m c × ((i : ℕ) → i < c → Has spots m i → (i ≡ a) ⊎ (i ≡ b))

-- a spot of another name, or of none
pub standing_on : (spots : List TextSpot) (at m : ℕ) (s : Seen) → (Has spots m at → ⊥) → IsStanding spots at m s → IsStanding spots (at + 1) m s
standing_on spots at m Never other h = λ i lt e. part i e (cases_lt i at) lt
  where
    part : (i : ℕ) → Has spots m i → (i < at) ⊎ (at ≤ i) → i < at + 1 → ⊥
    part i e (inl x) lt = h i x e
    part i e (inr x) lt = let same : i ≡ at = omega (arith, x, lt) in other (subst (Has spots m) same e)
standing_on spots at m (Once a) other h = (omega (arith, h.0), h.1, λ i lt e. part i e (cases_lt i at) lt)
  where
    part : (i : ℕ) → Has spots m i → (i < at) ⊎ (at ≤ i) → i < at + 1 → i ≡ a
    part i e (inl x) lt = h.2 i x e
    part i e (inr x) lt = let same : i ≡ at = omega (arith, x, lt) in absurd (other (subst (Has spots m) same e))
standing_on spots at m Twice other (a, b, less, in_, e, f, only) = (a, b, less, omega (arith, in_), e, f, λ i lt g. part i g (cases_lt i at) lt)
  where
    part : (i : ℕ) → Has spots m i → (i < at) ⊎ (at ≤ i) → i < at + 1 → (i ≡ a) ⊎ (i ≡ b)
    part i g (inl x) lt = only i x g
    part i g (inr x) lt = let same : i ≡ at = omega (arith, x, lt) in absurd (other (subst (Has spots m) same g))
standing_on spots at m Often other (a, b, c, less, next, in_, e, f, g, only) = (a, b, c, less, next, omega (arith, in_), e, f, g, only)

-- one spot more of the name
pub standing_more : (spots : List TextSpot) (at m : ℕ) (s : Seen) → Has spots m at → IsStanding spots at m s → IsStanding spots (at + 1) m (seen_again s at)
standing_more spots at m Never here h = (omega arith, here, λ i lt e. part i e (cases_lt i at) lt)
  where
    part : (i : ℕ) → Has spots m i → (i < at) ⊎ (at ≤ i) → i < at + 1 → i ≡ at
    part i e (inl x) lt = absurd (h i x e)
    part i e (inr x) lt = omega (arith, x, lt)
standing_more spots at m (Once a) here h = (a, at, h.0, omega arith, h.1, here, λ i lt e. part i e (cases_lt i at) lt)
  where
    part : (i : ℕ) → Has spots m i → (i < at) ⊎ (at ≤ i) → i < at + 1 → (i ≡ a) ⊎ (i ≡ at)
    part i e (inl x) lt = inl (h.2 i x e)
    part i e (inr x) lt = inr (omega (arith, x, lt))
standing_more spots at m Twice here (a, b, less, in_, e, f, only) = (a, b, at, less, in_, omega arith, e, f, here, only)
standing_more spots at m Often here (a, b, c, less, next, in_, e, f, g, only) = (a, b, c, less, next, omega (arith, in_), e, f, g, only)
