-- An owner's cells are parted in two by a choice of cells.
use Rattle.std.specs.Prelude.{◌≡◌, ℕ, zero, suc, ◌<◌, Bool, true, false, not, List, [], ◌∷◌, length, slice_set, Option, Some, None}
use Rattle.in_memory.specs.Places.{together}

module _ {X : Type 0} where
  -- the cell if it is chosen, otherwise none
  abbrev pub held : Bool → Option (Option X) → Option (Option X)
  held true c = c
  held false c = None

  -- the cells whose numbers are chosen
  abbrev pub those_of : (ℕ → Bool) → List (Option (Option X)) → List (Option (Option X))
  those_of p [] = []
  those_of p (c ∷ cs) = held (p 0) c ∷ those_of (λ k. p (suc k)) cs

abbrev pub but : (ℕ → Bool) → ℕ → Bool
but p k = not (p k)

-- the choice of one number alone
abbrev pub is_no : ℕ → ℕ → Bool
is_no zero zero = true
is_no zero (suc k) = false
is_no (suc i) zero = false
is_no (suc i) (suc k) = is_no i k

-- ---- the laws

-- if cells are parted between two owners and joined again, by either one, they are those of the first owner
abbrev pub PartsAreAll : Type 0 → Type 0
PartsAreAll X = (p : ℕ → Bool) (cs : List (Option (Option X))) → (together (those_of p cs) (those_of (but p) cs) ≡ cs) × (together (those_of (but p) cs) (those_of p cs) ≡ cs)

-- a cell that one of the two owners writes in its part is written in the whole
abbrev pub WrittenInPartIsWritten : Type 0 → Type 0
WrittenInPartIsWritten X =
    (p : ℕ → Bool) (cs : List (Option (Option X))) (i : ℕ) (x : X) → p i ≡ true → i < length cs
    → together (those_of (but p) cs) (slice_set (those_of p cs) i (Some (Some x))) ≡ slice_set cs i (Some (Some x))
