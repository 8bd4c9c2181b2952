-- The term at a point, while it is written: the agents that hang on each other there, and their text that is still to be written. Words of the
-- inner contracts.
use Rattle.std.specs.Prelude.{◌≡◌, ℕ, zero, suc, ◌-◌, ◌<◌, ◌≤◌, List, [], ◌∷◌, ◌++◌, length, Option, Some, None}
use Rattle.in_net.specs.Nets.{Point, Port}
use Rattle.in_check.specs.NetText.{TextPart, Bytes, arity_of, term}
use Rattle.in_print.specs.Writings.{Setting, TextSoFar, with_parts}
use Rattle.in_print.specs.declared.terms.Frame.{Frame}

abbrev pub arity_at : Setting → ℕ → ℕ
arity_at s y = arity_of s.symbols (s.net.symbol y)

abbrev pub term_in : Setting → ℕ → Point ℕ → List (TextPart ℕ)
term_in s d p = term s.symbols s.net d p

-- the terms at a given number of places after this one, and the bracket
abbrev pub rest_of : (Point ℕ → List (TextPart ℕ)) → ℕ → ℕ → ℕ → List (TextPart ℕ)
rest_of t y i zero = Bytes (41 ∷ []) ∷ []
rest_of t y i (suc k) = Bytes (44 ∷ 32 ∷ []) ∷ (t (Port y (suc i)) ++ rest_of t y (suc i) k)

-- each of these agents, the first one at the point, hangs at the place of the one before it
abbrev pub LeadsDown : Setting → Point ℕ → List Frame → Type 0
LeadsDown s p [] = Unit {0}
LeadsDown s p (f ∷ fs) = (s.net.partner p ≡ Some (Port f.cell.0 0)) × (0 < f.place) × (f.place ≤ arity_at s f.cell.0) × LeadsDown s (Port f.cell.0 f.place) fs

-- the text still to be written: the term at the point in hand, if there is one, and then the rest of each of these agents
abbrev pub remaining : Setting → ℕ → List Frame → Option (Point ℕ) → List (TextPart ℕ)
remaining s d [] None = []
remaining s d [] (Some p) = term_in s d p
remaining s zero (f ∷ fs) x = []
remaining s (suc d) (f ∷ fs) x = remaining s d fs x ++ rest_of (term_in s d) f.cell.0 f.place (arity_at s f.cell.0 - f.place)

-- the point where the last of these agents waits for its term
abbrev pub last_point : Point ℕ → List Frame → Point ℕ
last_point p [] = p
last_point p (f ∷ fs) = last_point (Port f.cell.0 f.place) fs

abbrev pub IsInHand : Point ℕ → List Frame → Option (Point ℕ) → Type 0
IsInHand p fs None = Unit {0}
IsInHand p fs (Some q) = q ≡ last_point p fs

-- no more than d agents hang on each other there, whether the last of them has auxiliary ports or not
abbrev pub IsShallow : Setting → ℕ → Point ℕ → Type 0
IsShallow s d p = (fs : List Frame) → LeadsDown s p fs → (length fs ≤ d) × ((y : ℕ) → s.net.partner (last_point p fs) ≡ Some (Port y 0) → length fs < d)

-- some of the text was written, and less is still to be written
pub record WritesOn (s : Setting) (d : ℕ) (p : Point ℕ) (old : TextSoFar) (fs : List Frame) (x : Option (Point ℕ)) (new : TextSoFar) (gs : List Frame) (y : Option (Point ℕ)) : Type 0 where
  pub text : with_parts s new (remaining s d gs y) ≡ with_parts s old (remaining s d fs x)
  pub fewer : length (remaining s d gs y) < length (remaining s d fs x)
  pub leads : LeadsDown s p gs
  pub in_hand : IsInHand p gs y
