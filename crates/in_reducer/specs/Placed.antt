-- Placed cells between two interactions.
use Rattle.in_arena.specs.Arenas.{ArenaView}
use Rattle.in_arena.specs.Bags.{IsBagOf}
use Rattle.in_compile.specs.Placing.{HasNoCell}

-- a bag of this arena that has no cell
abbrev pub IsNoneOf : ArenaView → ArenaView → Type 0
IsNoneOf b a = IsBagOf b a × HasNoCell b
