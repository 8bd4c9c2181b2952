use Rattle.std.proofs.Common.{sym, subst}
use Rattle.in_arena.specs.Arenas.{ArenaView}
use Rattle.in_compile.specs.Listing.{listed, IsListing}
use Rattle.in_compile.proofs.Placements.Stocked.{empty_listed}
use Rattle.in_compile.proofs.stock.Stock.empty.Goals as goal

pub invariant_of-result : goal.invariant_of-result
invariant_of-result c =
    subst (λ (b : ArenaView). IsListing b (listed c.in_ok-lists.lists)) (sym c.bag.ensures) (empty_listed c.args.arena.now (listed c.in_ok-lists.lists) c.in_ok-lists.ensures.0)
