use Rattle.std.proofs.Common.{◌∷◌}
use Rattle.in_rounds.specs.Gathers.{bags_of}
use Rattle.in_rounds.proofs.Public.{first_is_bag, one_less}
use Rattle.in_harness.proofs.Putting.{taken_in_hand}
use Rattle.in_harness.proofs.gathers.taken.Goals as goal

pub spend-requires : goal.spend-requires
spend-requires c =
    let hand = taken_in_hand c.args.stock.now c.in-Some.done c.args.gather.now c.take.new.self c.args.job c.args.arena.now c.requires c.in-Some.ensures in
    first_is_bag c.in-Some.done.placed.placed.bag (c.args.stock.now.bag ∷ bags_of c.take.new.self.slots) c.args.arena.now hand.bags

pub returns-in-Some : goal.returns-in-Some
returns-in-Some c =
    let hand = taken_in_hand c.args.stock.now c.in-Some.done c.args.gather.now c.take.new.self c.args.job c.args.arena.now c.requires c.in-Some.ensures in
    one_less c.in-Some.done.placed.placed.bag (c.args.stock.now.bag ∷ bags_of c.take.new.self.slots) c.args.arena.now c.spend.new.arena hand c.spend.ensures
