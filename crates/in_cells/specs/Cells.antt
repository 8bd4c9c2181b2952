-- The parts of an arena that stay if only the ends at places are written.
use Rattle.std.specs.Prelude.{◌≡◌, ℕ, map, Some}
use Rattle.in_arena.specs.Arenas.{ArenaView, state_at}
use Rattle.in_arena.specs.Changes.{AsManyAreFree}
use Rattle.in_arena.specs.States.{State, Vacant, Leased, Live, word_of}
use Rattle.in_arena.specs.declared.content.End.TheVariants as end
use Rattle.in_symbols.specs.Tables.{Tables, IsSymbol}

-- a cell up to the ends at its places
abbrev pub outline : State → State
outline Vacant = Vacant
outline Leased = Leased
outline (Live word ends) = Live word (map (λ x. end.Free 0) ends)

-- each cell is free, leased or live as before, with its symbol word and its number of places
pub record KeepsCells (old new : ArenaView) : Type 0 where
  pub memory : new.memory ≡ old.memory
  pub cells : new.cells ≡ old.cells
  pub outlines : map outline new.states ≡ map outline old.states
  pub free : AsManyAreFree old new

-- the symbol word of each live cell is the number of a symbol
abbrev pub HasSymbols : Tables → ArenaView → Type 0
HasSymbols t a = (y s : ℕ) → word_of (state_at a y) ≡ Some s → IsSymbol t s
