-- Refusals, and the first of several faults. The codes and their order are this project's own choice.
use Rattle.std.specs.Prelude.{◌≡◌, ◌⊎◌, ℕ, ◌<◌, ◌≤◌, nat_lt, if◌then◌else◌, List, [], ◌∷◌, Option, Some, None, option_map}
use Rattle.in_syntax.specs.declared.faults.Code.{Code}
use Rattle.in_syntax.specs.declared.faults.Code.TheVariants.{E01, E02, E03, E04, E05, E06, E07, E08, E09, E10, E11, E12, E13, E14, E15}
use Rattle.in_syntax.specs.declared.faults.Refusal.{Refusal}
use Rattle.in_syntax.specs.declared.places.Place.{Place}

-- the refusal of this code at the place
abbrev pub refusal_of : Code → Place → Refusal
refusal_of c p = record { code = c; place = p; other = None }

-- the same, if there is a place
abbrev pub refused : Code → Option Place → Option Refusal
refused c = option_map (refusal_of c)

-- ---- the earliest

-- the earlier of two places; the first, if both begin at one byte
abbrev pub earlier : Option Place → Option Place → Option Place
earlier None q = q
earlier (Some p) None = Some p
earlier (Some p) (Some q) = if nat_lt q.from p.from then Some q else Some p

-- the earliest of a found place, if there is one, and some other places
abbrev pub earliest : Option Place → List (Option Place) → Option Place
earliest found [] = found
earliest found (p ∷ ps) = earliest (earlier found p) ps

-- the refusal at the earlier place; the first, if both begin at one byte
abbrev pub earlier_refusal : Option Refusal → Option Refusal → Option Refusal
earlier_refusal None s = s
earlier_refusal (Some r) None = Some r
earlier_refusal (Some r) (Some s) = if nat_lt s.place.from r.place.from then Some s else Some r

-- ---- the first fault

abbrev pub code_number : Code → ℕ
code_number E01 = 1
code_number E02 = 2
code_number E03 = 3
code_number E04 = 4
code_number E05 = 5
code_number E06 = 6
code_number E07 = 7
code_number E08 = 8
code_number E09 = 9
code_number E10 = 10
code_number E11 = 11
code_number E12 = 12
code_number E13 = 13
code_number E14 = 14
code_number E15 = 15

-- the first place is before the second one, or both begin at one byte and the first code is no higher
abbrev pub IsNoLater : Code → Place → Code → Place → Type 0
IsNoLater c p d q = (p.from < q.from) ⊎ ((p.from ≡ q.from) × (code_number c ≤ code_number d))

-- none of the faults is earlier than this one, and none at its place has a lower code
pub record IsFirstOf (F : Code → Place → Type 0) (c : Code) (p : Place) : Type 0 where
  pub stands : F c p
  pub first : (d : Code) (q : Place) → F d q → IsNoLater c p d q

abbrev pub HasNone : (Code → Place → Type 0) → Type 0
HasNone F = (c : Code) (p : Place) → F c p → ⊥
