-- A namespace as a list of its names, in the order of declaration.
use Rattle.std.specs.Prelude.{◌≡◌, ℕ, List, [], ◌∷◌, ◌++◌, Bool, true, false, Option, Result, Ok, Err, position, slice_index_or}
use Rattle.std.specs.List.{list_any}
use Rattle.std.specs.declared.alloc.AllocError.{AllocError}
use Rattle.std.specs.Str.{bytes_eq}

-- the number of a name, from 0; none if it isn't declared
abbrev pub number_in : List ℕ → List (List ℕ) → Option ℕ
number_in name names = position (bytes_eq name) names

abbrev pub name_in : ℕ → List (List ℕ) → List ℕ
name_in number names = slice_index_or names number []

-- whether a name is declared
abbrev pub has_name : List ℕ → List (List ℕ) → Bool
has_name name names = list_any (bytes_eq name) names

-- a new name is added at the end, and a declared one changes nothing
abbrev pub Declares : List (List ℕ) → List ℕ → List (List ℕ) → Result Bool AllocError → Type 0
Declares old name new (Ok true) = (new ≡ old ++ name ∷ []) × (has_name name old ≡ false)
Declares old name new (Ok false) = (new ≡ old) × (has_name name old ≡ true)
Declares old name new (Err e) = new ≡ old
