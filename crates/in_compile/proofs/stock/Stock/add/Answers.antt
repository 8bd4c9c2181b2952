use Rattle.std.proofs.Common.{◌+◌, ℕ, get_or, subst, ◌∙◌}
use Rattle.in_arena.specs.Classes.{classes}
use Rattle.in_arena.specs.declared.content.CellClass.{CellClass}
use Rattle.in_arena.specs.declared.content.CellClass.TheVariants.{Small}
use Rattle.in_compile.specs.Cells.{count_of}
use Rattle.in_compile.specs.Listing.{of_class}
use Rattle.in_compile.specs.Stocks.{Adds}
use Rattle.in_compile.proofs.Needs.Classes.{one_class_added, up_to}
use Rattle.in_compile.proofs.Placements.Stocked.{added_too, all_stay}
use Rattle.in_compile.proofs.stock.Stock.add.Goals as goal

pub lease_more-requires-clause-all : goal.lease_more-requires-clause-all
lease_more-requires-clause-all c = let h = c.loop-class.invariant.adds in all_stay c.args.arena.now c.loop-class.arena h.cells _ h.arena c.cells.ensures.1

pub loop-class-preserved : goal.loop-class-preserved
loop-class-preserved c =
    let i = c.loop-class.invariant in
    let class = c.loop-class.class-index in
    let here : CellClass = get_or classes class Small in
    let more = c.lease_more.ensures in
    let leased = subst (λ (n : ℕ). Adds (of_class here n) c.loop-class.arena c.loop-class.bag c.lease_more.new.arena c.lease_more.new.bag) c.of.ensures more.adds in
    record {
      items = i.items;
      listing = more.listing;
      room = more.room ∙ i.room;
      adds = added_too (up_to (count_of c.args.need) class) (of_class here (count_of c.args.need here)) (up_to (count_of c.args.need) (class + 1)) c.args.arena.now c.self.inside.bag c.loop-class.arena c.loop-class.bag c.lease_more.new.arena c.lease_more.new.bag
          (one_class_added (count_of c.args.need) class c.loop-class-test.true) i.adds leased;
    }
