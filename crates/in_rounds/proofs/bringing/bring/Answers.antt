use Rattle.std.proofs.Common.{◌≡◌, ◌++◌, refl, ap, sym, subst, ◌∙◌}
use Rattle.std.specs.Option.{option_to_list}
use Rattle.in_arena.specs.Bags.{IsBagOf}
use Rattle.in_arena.specs.States.{Vacant}
use Rattle.in_compile.specs.Stocks.{Regains}
use Rattle.in_rounds.specs.Dones.{DoneParts}
use Rattle.in_rounds.specs.Gathers.{GatherParts, bags_of}
use Rattle.in_rounds.proofs.Holding.{first_is_bag}
use Rattle.in_rounds.specs.Holding.{AreBagsOf, Returns}
use Rattle.in_rounds.specs.Bringing.{in_hand, AreMadeWith}
use Rattle.in_rounds.specs.Works.{bags}
use Rattle.in_rounds.proofs.Brought.{one_gone, last_is_bag, last_gone, last_kept, made_with}
use Rattle.in_rounds.proofs.Threading.{last_of, all_but_last}
use Rattle.in_rounds.proofs.bringing.bring.Goals as goal

pub spend-requires : goal.spend-requires
spend-requires c = first_is_bag c.args.hand.stock.bag (bags c.args.hand.done.items ++ bags_of c.args.gather.now.slots) c.args.arena.now c.requires.bags

pub loop-one-init : goal.loop-one-init
loop-one-init c =
    let t = one_gone c.args.hand.stock.bag (bags c.args.hand.done.items ++ bags_of c.args.gather.now.slots) c.args.arena.now c.spend.new.arena c.requires.bags c.spend.ensures in
    record { returns = t.0; bags = t.1; jobs = refl; done = c.requires.made.0; made = c.requires.made.1 }

pub spend-requires-in-Err : goal.spend-requires-in-Err
spend-requires-in-Err c =
    let split = c.pop.ensures.items ∙ ap (λ r. c.pop.new.self.items ++ option_to_list r) c.in-Some.is in
    let is = last_is_bag c.loop-one.done.items c.pop.new.self.items c.in-Some.one (bags_of c.loop-one.gather.slots) split c.loop-one.arena c.loop-one.invariant.bags in
    subst (λ (d : DoneParts). IsBagOf d.placed.placed.bag c.loop-one.arena) (sym c.in-Err.ensures.0) is

pub loop-one-preserved-in-Err : goal.loop-one-preserved-in-Err
loop-one-preserved-in-Err c =
    let split = c.pop.ensures.items ∙ ap (λ r. c.pop.new.self.items ++ option_to_list r) c.in-Some.is in
    let v = c.loop-one.invariant in
    let back = subst (λ (d : DoneParts). Regains (λ _. Vacant) c.loop-one.arena d.placed.placed.bag c.spend-in-Err.new.arena) c.in-Err.ensures.0 c.spend-in-Err.ensures in
    let t = last_gone c.loop-one.done.items c.pop.new.self.items c.in-Some.one (bags_of c.loop-one.gather.slots) split c.args.arena.now c.loop-one.arena c.spend-in-Err.new.arena (in_hand c.args.hand ++ bags_of c.args.gather.now.slots) v.returns v.bags back in
    let same : c.put.new.self ≡ c.loop-one.gather = c.in-Err.ensures.2 in
    record {
      returns = subst (λ (g : GatherParts). Returns (in_hand c.args.hand ++ bags_of c.args.gather.now.slots) (bags c.pop.new.self.items ++ bags_of g.slots) c.args.arena.now c.spend-in-Err.new.arena) (sym same) t.0;
      bags = subst (λ (g : GatherParts). AreBagsOf (bags c.pop.new.self.items ++ bags_of g.slots) c.spend-in-Err.new.arena) (sym same) t.1;
      jobs = ap (λ (g : GatherParts). g.jobs) same ∙ v.jobs;
      done = all_but_last (λ (d : DoneParts). d.templates ≡ c.args.templates.now) c.loop-one.done.items c.pop.new.self.items c.in-Some.one split v.done;
      made = subst (λ (g : GatherParts). AreMadeWith c.args.templates.now g.slots) (sym same) v.made;
    }

pub loop-one-preserved : goal.loop-one-preserved
loop-one-preserved c =
    let split = c.pop.ensures.items ∙ ap (λ r. c.pop.new.self.items ++ option_to_list r) c.in-Some.is in
    let v = c.loop-one.invariant in
    let put = c.in_default-put.ensures in
    let slots = ap (λ (g : GatherParts). g.slots) put.2 in
    let t = last_kept c.loop-one.done.items c.pop.new.self.items c.in-Some.one c.loop-one.gather.slots c.put.new.self.slots split c.args.arena.now c.loop-one.arena (in_hand c.args.hand ++ bags_of c.args.gather.now.slots) v.returns v.bags put.1 slots in
    record {
      returns = t.0;
      bags = t.1;
      jobs = ap (λ (g : GatherParts). g.jobs) put.2 ∙ v.jobs;
      done = all_but_last (λ (d : DoneParts). d.templates ≡ c.args.templates.now) c.loop-one.done.items c.pop.new.self.items c.in-Some.one split v.done;
      made = made_with c.args.templates.now c.loop-one.gather.slots c.put.new.self.slots c.in-Some.one v.made
          (last_of (λ (d : DoneParts). d.templates ≡ c.args.templates.now) c.loop-one.done.items c.pop.new.self.items c.in-Some.one split v.done) put.1 slots;
    }
