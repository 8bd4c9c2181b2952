use Rattle.std.proofs.Common.{◌≡◌, [], ◌∷◌, ap, sym, subst}
use Rattle.in_rounds.specs.Gathers.{GatherParts, bags_of}
use Rattle.in_rounds.specs.Holding.{HaveAllLeased}
use Rattle.in_rounds.proofs.Public.{filled_has_all, first_is_bag}
use Rattle.in_harness.proofs.Putting.{gather_has_all, none_left}
use Rattle.in_harness.proofs.gathers.add_gather.Goals as goal

pub add_answers-requires-clause-all : goal.add_answers-requires-clause-all
add_answers-requires-clause-all c =
    let none : bags_of c.in-Ok.gather.slots ≡ [] = ap (λ (z : GatherParts). bags_of z.slots) c.in-Ok.ensures in
    subst (λ bs. HaveAllLeased (c.in-Ok-fill.stock.bag ∷ bs) c.fill.new.arena) (sym none)
    (filled_has_all c.each-need.result c.args.arena.now c.fill.new.arena c.in-Ok-fill.stock c.cells.ensures.1 c.requires.whole c.in-Ok-fill.ensures.filled)

pub spend-requires : goal.spend-requires
spend-requires c = first_is_bag c.add_answers.new.stock.bag (bags_of c.add_answers.new.gather.slots) c.add_answers.new.arena c.add_answers.ensures.bags

pub spend-requires-2 : goal.spend-requires-2
spend-requires-2 c = (gather_has_all c.add_answers.new.stock c.add_answers.new.gather c.add_answers.new.arena c.spend.new.arena c.add_answers.ensures c.spend.ensures).bags

pub returns : goal.returns
returns c = none_left c.add_answers.new.stock c.add_answers.new.gather c.add_answers.new.arena c.spend.new.arena c.add_answers.ensures c.spend.ensures c.spend-2.new.arena c.spend-2.ensures
