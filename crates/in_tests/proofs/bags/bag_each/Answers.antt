use Rattle.std.proofs.Common.{◌≡◌, ◌∙◌, sym, subst}
use Rattle.in_arena.specs.Arenas.{ArenaView}
use Rattle.in_arena.specs.Bags.{IsBagOf, empty_bag}
use Rattle.in_arena.proofs.Public.{empty_is_of}
use Rattle.in_tests.proofs.bags.bag_each.Goals as goal

bag_of : (a b c d : ArenaView) → b ≡ empty_bag a → c ≡ a → d ≡ b → IsBagOf d c
bag_of a b c d e f g = subst (IsBagOf d) (sym f) (subst (λ x. IsBagOf x a) (sym (g ∙ e)) (empty_is_of a).0)

pub bag_all-requires : goal.bag_all-requires
bag_all-requires g c = bag_of c.args.arena.now c.bag-bag.result _ _ c.bag-bag.ensures (λ i. c.args.arena.now) (λ i. c.bag-bag.result)

pub bag_all-requires-2 : goal.bag_all-requires-2
bag_all-requires-2 g c = bag_of c.args.arena.now c.bag-bag.result _ _ c.bag-bag.ensures c.bag_all.ensures.0 c.bag_all.ensures.1

pub bag_all-requires-3 : goal.bag_all-requires-3
bag_all-requires-3 g c = bag_of c.args.arena.now c.bag-bag.result _ _ c.bag-bag.ensures (c.bag_all-2.ensures.0 ∙ c.bag_all.ensures.0) (c.bag_all-2.ensures.1 ∙ c.bag_all.ensures.1)
