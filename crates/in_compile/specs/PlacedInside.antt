-- The view of a placed member, and the invariant of its fields.
use Rattle.std.specs.Prelude.{◌<◌, ◌^◌, length, vec_capacity}
use Rattle.in_arena.specs.Changes.{HasAllCells}
use Rattle.in_compile.specs.Placing.{PlacedParts}
use Rattle.in_compile.specs.declared.placed.Placed.TheInside.{Inside}

abbrev pub placed_view : Inside → PlacedParts
placed_view p = record { cells = p.numbers.items; bag = p.bag; room = vec_capacity p.numbers }

pub record KeepsPlaced (p : Inside) : Type 0 where
  pub all : HasAllCells p.bag
  pub few : length p.numbers.items < 2 ^ 32
