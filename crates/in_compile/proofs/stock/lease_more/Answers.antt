use Rattle.std.proofs.Common.{sym, subst, ◌∙◌}
use Rattle.in_arena.specs.Arenas.{ArenaView}
use Rattle.in_arena.specs.Bags.{LeasesTo}
use Rattle.in_arena.specs.Classes.{IsNumberOf}
use Rattle.in_arena.proofs.Public.{vacant_apart}
use Rattle.in_compile.specs.Listing.{listed, IsListing}
use Rattle.in_compile.proofs.Placements.Stocked.{all_stay, one_added, one_listed}
use Rattle.in_compile.proofs.stock.lease_more.Goals as goal

pub loop-turn-preserved : goal.loop-turn-preserved
loop-turn-preserved c =
    let h = c.loop-turn.invariant in
    let a = c.loop-turn.arena in
    let b = c.loop-turn.bag in
    let n = c.in-Some.cell in
    let made = subst (λ o. LeasesTo a c.args.class b o c.lease_to.new.self c.lease_to.new.bag) c.in-Some.is c.lease_to.ensures in
    let all = all_stay c.args.arena.now a h.adds.cells _ h.adds.arena c.requires.all in
    record {
      listing = subst (λ (v : ArenaView). IsListing v (listed c.push.new.self)) (sym made.3)
          (one_listed b (listed c.loop-turn.lists) (listed c.push.new.self) c.args.class n c.push.ensures.others h.listing
          (subst (λ m. IsNumberOf m c.args.class n.0) (sym h.adds.of.cells) made.0) (vacant_apart b a n.0 h.adds.of made.1) c.push.ensures.here);
      room = c.push.ensures.room ∙ h.room;
      adds = one_added c.args.class c.loop-turn._turn c.args.arena.now c.args.bag.now a b c.lease_to.new.self c.lease_to.new.bag n all h.listing.all h.adds made;
    }

pub returns-clause-all : goal.returns-clause-all
returns-clause-all c =
    let h = c.loop-turn.invariant.adds in
    all_stay c.args.arena.now c.loop-turn.arena h.cells _ h.arena c.requires.all
