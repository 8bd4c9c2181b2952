-- The view of a lease, and the invariant of its fields.
use Rattle.std.specs.Prelude.{◌≡◌, ◌≤◌, ◌<◌, ◌+◌, replicate, Some, None}
use Rattle.in_arena.specs.Arenas.{LeaseView}
use Rattle.in_arena.specs.Classes.{amount, first_of, width}
use Rattle.in_arena.specs.FreeLists.{state_of}
use Rattle.in_arena.specs.Limiting.{AreAllowed}
use Rattle.in_arena.specs.Words.{AreWhole, ChangesCell, Content, cell_in, words_of}
use Rattle.in_arena.specs.declared.lease.Lease.TheInside.{Inside}

abbrev pub lease_view : Inside → LeaseView
lease_view l = record {
  class = l.spot.class;
  memory = l.words.at;
  cells = l.spot.cells;
  number = first_of l.spot.cells l.spot.class + l.spot.index;
  state = state_of (cell_in l.spot.cells l.words.slots l.spot.class l.spot.index);
}

-- it owns the words of one cell, which is written
pub record IsLease (l : Inside) : Type 0 where
  pub few : AreAllowed l.spot.cells
  pub block : l.words.at ≡ l.base.ptr
  pub index : l.spot.index < amount l.spot.cells l.spot.class
  pub whole : AreWhole l.spot.cells l.words.slots
  pub alone : ChangesCell l.spot.cells (replicate (words_of l.spot.cells) None) l.words.slots l.spot.class l.spot.index
  pub content : Content
  pub cell : cell_in l.spot.cells l.words.slots l.spot.class l.spot.index ≡ Some (Some content)
  pub room : content.count ≤ width l.spot.class
