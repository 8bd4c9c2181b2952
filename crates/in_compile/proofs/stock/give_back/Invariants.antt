use Rattle.std.proofs.Common.{◌≡◌, ◌+◌, length}
use Rattle.in_arena.specs.Bags.{IsBagOf}
use Rattle.in_arena.specs.Changes.{HasAllCells}
use Rattle.in_arena.specs.States.{Vacant}
use Rattle.in_arena.specs.declared.content.CellClass.{CellClass}
use Rattle.in_compile.specs.Listing.{listed, IsListing, IsOnTheWay}
use Rattle.in_compile.proofs.stock.give_back.Given as goal

abbrev pub invariant-loop-turn : goal.invariant-loop-turn
invariant-loop-turn l = record {
  listing : IsListing l.bag (listed l.lists);
  of : IsBagOf l.bag l.arena;
  all : HasAllCells l.arena;
  turns : length (listed l.lists l.class) + l._turn ≡ length (listed l.fn.lists l.class);
  others : (d : CellClass) → (d ≡ l.class → ⊥) → listed l.lists d ≡ listed l.fn.lists d;
  back : IsOnTheWay (λ _. Vacant) l.fn.arena l.fn.bag l.arena l.bag;
}
