-- An end in one word of 32 bits. The lowest two bits of the word of a near place, 0 to 2, are the place, and the bits above them are the number of
-- the cell: so the word is the place's own number in the row. The lowest two bits of every other end are full, the number is above them, and from
-- bit 27 on there is the place, or 31 for a free end.
use Rattle.std.specs.Prelude.{◌≡◌, ◌≤◌, ◌<◌, ◌+◌, ◌*◌, ◌/◌, ◌%◌, ℕ, List, Some, nat_eq, nat_lt, slice_get, if◌then◌else◌}
use Rattle.in_arena.specs.declared.content.CellNo.{CellNo}
use Rattle.in_arena.specs.declared.content.End.{End}
use Rattle.in_arena.specs.declared.content.End.TheVariants.{Cell, Free}

-- the place begins at this bit
abbrev pub above : ℕ
above = 134217728

-- the count of all numbers
abbrev pub numbers : ℕ
numbers = 33554432

-- the number that a free end has for a place
abbrev pub free_place : ℕ
free_place = 31

-- an end that has a word
abbrev pub HasWord : End → Type 0
HasWord (Cell c place) = (c.0 < numbers) × (place < free_place)
HasWord (Free number) = number < numbers

-- each of these ends has one
abbrev pub HaveWords : List End → Type 0
HaveWords es = (k : ℕ) (e : End) → slice_get es k ≡ Some e → HasWord e

-- one of the first three places of a cell
abbrev pub IsNear : End → Type 0
IsNear e = (c : CellNo) × (place : ℕ) × (e ≡ Cell c place) × (place < 3)

-- the number of the cell or of the free end
abbrev pub number_in : ℕ → ℕ
number_in bits = bits % above / 4

abbrev pub end_in : ℕ → End
end_in bits = if nat_eq (bits / above) 0 then Cell (record { 0 = number_in bits }) (bits % 4) else if nat_eq (bits / above) free_place then Free (number_in bits) else Cell (record { 0 = number_in bits }) (bits / above)

abbrev pub bits_of : End → ℕ
bits_of (Cell c place) = if nat_lt place 3 then c.0 * 4 + place else place * above + (c.0 * 4 + 3)
bits_of (Free number) = free_place * above + (number * 4 + 3)

-- these are the bits of an end
pub record FitsEnd (bits : ℕ) : Type 0 where
  pub near : bits / above ≡ 0 → bits % 4 < 3
  pub others : (bits / above ≡ 0 → ⊥) → (bits % 4 ≡ 3) × (3 ≤ bits / above) × (bits / above ≤ free_place)

-- ---- the step from the principal port of a cell to a place of it: the word that is added to the port's

abbrev pub place_of_step : ℕ → ℕ
place_of_step bits = if nat_eq (bits / above) 0 then bits else bits / above

abbrev pub step_to : ℕ → ℕ
step_to place = if nat_lt place 3 then place else place * above + 3

pub record FitsStep (bits : ℕ) : Type 0 where
  pub near : bits / above ≡ 0 → bits < 3
  pub others : (bits / above ≡ 0 → ⊥) → (bits % above ≡ 3) × (3 ≤ bits / above) × (bits / above < free_place)
