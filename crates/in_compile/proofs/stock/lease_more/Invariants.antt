use Rattle.std.proofs.Common.{◌≡◌}
use Rattle.in_compile.specs.Listing.{listed, room_of, of_class, IsListing}
use Rattle.in_compile.specs.Stocks.{Adds}
use Rattle.in_compile.proofs.stock.lease_more.Given as goal

abbrev pub invariant-loop-turn : goal.invariant-loop-turn
invariant-loop-turn l = record {
  listing : IsListing l.bag (listed l.lists);
  room : room_of l.lists ≡ room_of l.fn.lists;
  adds : Adds (of_class l.class l._turn) l.fn.arena l.fn.bag l.arena l.bag;
}
