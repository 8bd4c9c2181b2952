use Rattle.std.proofs.Common.{◌≡◌}
use Rattle.in_arena.specs.Classes.{classes}
use Rattle.in_compile.specs.Cells.{count_of}
use Rattle.in_compile.specs.Listing.{listed, room_of, IsListing}
use Rattle.in_compile.specs.Stocks.{Adds}
use Rattle.in_compile.proofs.Needs.Classes.{up_to}
use Rattle.in_compile.proofs.stock.Stock.add.Given as goal

abbrev pub invariant-loop-class : goal.invariant-loop-class
invariant-loop-class l = record {
  items : l.class-items ≡ classes;
  listing : IsListing l.bag (listed l.lists);
  room : room_of l.lists ≡ room_of l.initial.lists;
  adds : Adds (up_to (count_of l.need) l.class-index) l.initial.arena l.initial.bag l.arena l.bag;
}
