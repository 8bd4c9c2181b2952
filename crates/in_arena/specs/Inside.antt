-- The view of an arena, and the invariant of its fields.
use Rattle.std.specs.Prelude.{◌≡◌}
use Rattle.in_arena.specs.Arenas.{ArenaView}
use Rattle.in_arena.specs.ByClass.{view_of}
use Rattle.in_arena.specs.Classes.{width}
use Rattle.in_arena.specs.FreeLists.{ListsFree, list_in}
use Rattle.in_arena.specs.Limiting.{AreAllowed}
use Rattle.in_arena.specs.Starts.{AreStarts}
use Rattle.in_arena.specs.Words.{AreWhole, row_in, words_of}
use Rattle.in_arena.specs.declared.arena.Arena.TheInside.{Inside}
use Rattle.in_arena.specs.declared.content.CellClass.{CellClass}

abbrev pub arena_view : Inside → ArenaView
arena_view a = view_of a.words.at a.cells a.words.slots

-- the number of a cell fits its type
pub record IsArena (a : Inside) : Type 0 where
  pub few : AreAllowed a.cells
  pub block : (a.words.at ≡ a.base.ptr) × (a.deed.at ≡ a.base.ptr) × (a.deed.len ≡ words_of a.cells) × (a.deed.alloc ≡ a.alloc)
  pub starts : AreStarts a.cells a.starts
  pub whole : AreWhole a.cells a.words.slots
  pub free : (c : CellClass) → ListsFree (width c) (row_in a.cells a.words.slots c) (list_in a.lists c)
