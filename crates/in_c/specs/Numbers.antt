-- A refusal, and the version, as numbers. Their form is this project's own choice.
use Rattle.std.specs.Prelude.{ℕ, Option, Some, None}
use Rattle.in_syntax.specs.declared.faults.Refusal.{Refusal}
use Rattle.in_syntax.specs.declared.places.Place.{Place}
use Rattle.in_syntax.specs.Refusals.{code_number}
use Rattle.in_c.specs.declared.refusing.Numbers.{Numbers}

-- 0.1.0
abbrev pub version_number : ℕ
version_number = 1000

abbrev pub no_numbers : Numbers
no_numbers = record { code = 0; line = 0; column = 0; from = 0; to = 0; other_from = 0; other_to = 0 }

-- the bytes of a place that may be missing
abbrev first_of : Option Place → ℕ
first_of None = 0
first_of (Some p) = p.from

abbrev last_of : Option Place → ℕ
last_of None = 0
last_of (Some p) = p.to

-- the number of the code, the line and the column, the bytes of the place, and those of the other place, if there is one
abbrev pub numbers_of : Refusal → Numbers
numbers_of r = record { code = code_number r.code; line = r.place.line; column = r.place.col; from = r.place.from; to = r.place.to; other_from = first_of r.other; other_to = last_of r.other }
