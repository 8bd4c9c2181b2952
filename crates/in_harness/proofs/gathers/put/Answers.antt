use Rattle.std.proofs.Common.{◌∷◌, sym, subst}
use Rattle.in_arena.specs.Bags.{IsBagOf}
use Rattle.in_arena.specs.States.{Vacant}
use Rattle.in_compile.specs.Stocks.{Regains}
use Rattle.in_rounds.specs.Dones.{DoneParts}
use Rattle.in_rounds.specs.Gathers.{GatherParts, bags_of}
use Rattle.in_rounds.specs.Holding.{HaveAllLeased}
use Rattle.in_rounds.proofs.Public.{first_is_bag, one_less}
use Rattle.in_harness.proofs.Putting.{in_hand, kept}
use Rattle.in_harness.proofs.gathers.put.Goals as goal

pub spend-requires : goal.spend-requires
spend-requires c =
    let made = c.in-Some.ensures in
    let hand = in_hand c.args.stock.now c.made.new.stock c.in-Some.done c.args.gather.now c.args.arena.now c.requires.all made.0 made.1 made.2 in
    subst (λ (d : DoneParts). IsBagOf d.placed.placed.bag c.args.arena.now) (sym c.in-Err.ensures.0) (first_is_bag c.in-Some.done.placed.placed.bag (c.made.new.stock.bag ∷ bags_of c.args.gather.now.slots) c.args.arena.now hand.bags)

pub returns-in-Ok : goal.returns-in-Ok
returns-in-Ok c =
    let made = c.in-Some.ensures in
    kept c.args.stock.now c.made.new.stock c.in-Some.done c.args.gather.now c.args.arena.now c.requires.all made.0 made.1 made.2 c.put.new.self tt c.in-Ok.ensures

pub returns-in-Err : goal.returns-in-Err
returns-in-Err c =
    let made = c.in-Some.ensures in
    let hand = in_hand c.args.stock.now c.made.new.stock c.in-Some.done c.args.gather.now c.args.arena.now c.requires.all made.0 made.1 made.2 in
    let back = subst (λ (d : DoneParts). Regains (λ _. Vacant) c.args.arena.now d.placed.placed.bag c.spend.new.arena) c.in-Err.ensures.0 c.spend.ensures in
    subst (λ (g : GatherParts). HaveAllLeased (c.made.new.stock.bag ∷ bags_of g.slots) c.spend.new.arena) (sym c.in-Err.ensures.2)
    (one_less c.in-Some.done.placed.placed.bag (c.made.new.stock.bag ∷ bags_of c.args.gather.now.slots) c.args.arena.now c.spend.new.arena hand back)
