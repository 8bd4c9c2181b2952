use Rattle.std.proofs.Common.{◌≡◌, []}
use Rattle.in_arena.specs.Bags.{IsBagOf}
use Rattle.in_arena.specs.Changes.{HasAllCells}
use Rattle.in_arena.specs.Classes.{classes}
use Rattle.in_arena.specs.States.{Vacant}
use Rattle.in_compile.specs.Listing.{listed, IsListing, IsOnTheWay}
use Rattle.in_compile.proofs.Needs.Classes.{HaveItSoFar}
use Rattle.in_compile.proofs.stock.Stock.spend.Given as goal

abbrev pub invariant-loop-class : goal.invariant-loop-class
invariant-loop-class l = record {
  items : l.class-items ≡ classes;
  listing : IsListing l.bag (listed l.lists);
  of : IsBagOf l.bag l.arena;
  all : HasAllCells l.arena;
  none : HaveItSoFar (λ c. listed l.lists c ≡ []) l.class-index;
  back : IsOnTheWay (λ _. Vacant) l.initial.arena l.initial.bag l.arena l.bag;
}
