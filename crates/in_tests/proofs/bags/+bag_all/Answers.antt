use Rattle.std.proofs.Common.{◌∙◌, Some, ap, sym, subst}
use Rattle.in_arena.specs.Arenas.{changed, state_at}
use Rattle.in_arena.specs.Bags.{LeasesTo}
use Rattle.in_arena.specs.States.{Vacant, Leased, IsLeased}
use Rattle.in_arena.proofs.Public.{vacant_apart, changed_twice}
use Rattle.in_tests.proofs.Changes.{same_again}
use Rattle.in_tests.proofs.bags.+bag_all.Goals as goal

pub give_back_from-requires-clause-is_in : goal.give_back_from-requires-clause-is_in
give_back_from-requires-clause-is_in g t c =
    let n = c.no.result.0 in
    let made = subst (λ o. LeasesTo c.args.arena.now c.args.class c.args.bag.now o c.lease_to.new.self c.lease_to.new.bag) (c.in-Some.is ∙ ap Some (sym c.no.ensures)) c.lease_to.ensures in
    λ leased. subst IsLeased (ap (λ b. state_at b n) c.bag_all.ensures.1 ∙ made.5) leased

pub returns-in-Some : goal.returns-in-Some
returns-in-Some g t c =
    let a = c.args.arena.now in let b = c.args.bag.now in let n = c.no.result.0 in
    let made = subst (λ o. LeasesTo a c.args.class b o c.lease_to.new.self c.lease_to.new.bag) (c.in-Some.is ∙ ap Some (sym c.no.ensures)) c.lease_to.ensures in (
      c.give_back_from.ensures.0 ∙ ap (λ v. changed v n Vacant) (c.bag_all.ensures.0 ∙ made.2) ∙ changed_twice a n Leased Vacant ∙ same_again a n Vacant made.1,
      c.give_back_from.ensures.1 ∙ ap (λ v. changed v n Leased) (c.bag_all.ensures.1 ∙ made.3) ∙ changed_twice b n Vacant Leased ∙ same_again b n Leased (vacant_apart b a n c.requires made.1),
    )
