use Rattle.std.proofs.Common.{◌≡◌, ap, sym, subst, ◌∙◌}
use Rattle.in_arena.specs.Arenas.{ArenaView, changed, state_at}
use Rattle.in_arena.specs.Bags.{AreOfOne}
use Rattle.in_arena.specs.States.{State, Leased}
use Rattle.in_arena.specs.declared.content.CellNo.{CellNo}
use Rattle.in_compile.specs.declared.cells.Need.{Need}
use Rattle.in_compile.specs.Listing.{listed, room_of, IsListing}
use Rattle.in_compile.specs.PlacingSteps.{TakesOne}
use Rattle.in_compile.specs.Stocks.{StockParts}
use Rattle.in_compile.proofs.Placements.AgentByAgent.{one_taken}
use Rattle.in_compile.proofs.Placements.Stocked.{rest_listed, taken_at}
use Rattle.in_compile.proofs.stock.Stock.take.Goals as goal

pub invariant_of-self : goal.invariant_of-self
invariant_of-self c =
    let t = c.take-cell.ensures in
    let own = c.move_to.ensures.1 ∙ ap (λ (p : CellNo). changed c.self.inside.bag p.0 Leased) c.no.ensures in
    subst (λ (v : ArenaView). IsListing v (listed c.take-cell.new.self)) (sym own)
    (rest_listed c.self.inside.bag (listed c.take-cell.new.self) (listed c.self.inside.lists) c.args.class c.take-cell.result (λ d o. t.others d o) c.self.invariant t.here)

pub returns : goal.returns
returns c =
    let t = c.take-cell.ensures in
    let b = c.self.inside.bag in
    let d = c.args.bag.now in
    let l = listed c.take-cell.new.self in
    let k = listed c.self.inside.lists in
    let n = c.take-cell.result in
    let of_one = subst (λ (s : StockParts). AreOfOne s.bag d) (sym c.self.view_is) c.requires.of_one in
    let one = one_taken b (room_of c.self.inside.lists) l k c.args.class n (λ d o. t.others d o) c.self.invariant t.here d of_one c.requires.all in
    let bag : c.move_to.new.other ≡ changed d n.0 (state_at b n.0) = c.move_to.ensures.0 ∙ ap (λ (p : CellNo). changed d p.0 (state_at b p.0)) c.no.ensures in
    let own = c.move_to.ensures.1 ∙ ap (λ (p : CellNo). changed b p.0 Leased) c.no.ensures in
    let moved = bag ∙ ap (λ (x : State). changed d n.0 x) (taken_at b l k c.args.class n (λ d o. t.others d o) c.self.invariant t.here).1 in
    subst (λ (q : StockParts × ArenaView × Need × ArenaView). TakesOne q.0 c.args.class d n (record { bag = q.1; room = q.2 }) q.3)
    (λ i. (c.self.view_is i, sym own i, t.room i, sym moved i)) one
