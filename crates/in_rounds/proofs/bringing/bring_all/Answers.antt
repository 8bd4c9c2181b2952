use Rattle.std.proofs.Common.{◌++◌, ap, ◌∙◌}
use Rattle.std.specs.Option.{option_to_list}
use Rattle.in_rounds.specs.Gathers.{bags_of}
use Rattle.in_rounds.specs.Bringing.{in_hands, IsHandMadeWith}
use Rattle.in_rounds.proofs.Brought.{part_bags, part_in}
use Rattle.in_rounds.proofs.Threading.{last_of, all_but_last}
use Rattle.in_rounds.proofs.bringing.bring_all.Goals as goal

pub bring-requires-clause-bags : goal.bring-requires-clause-bags
bring-requires-clause-bags c =
    let split = c.pop.ensures.items ∙ ap (λ r. c.pop.new.self.items ++ option_to_list r) c.in-Some.is in
    part_bags c.loop-hand.hands.items c.pop.new.self.items c.in-Some.hand (bags_of c.loop-hand.gather.slots) split c.loop-hand.arena c.loop-hand.invariant.bags

pub bring-requires-clause-made : goal.bring-requires-clause-made
bring-requires-clause-made c =
    let split = c.pop.ensures.items ∙ ap (λ r. c.pop.new.self.items ++ option_to_list r) c.in-Some.is in
    (last_of (IsHandMadeWith c.args.templates.now) c.loop-hand.hands.items c.pop.new.self.items c.in-Some.hand split c.loop-hand.invariant.hands, c.loop-hand.invariant.made)

pub loop-hand-preserved : goal.loop-hand-preserved
loop-hand-preserved c =
    let split = c.pop.ensures.items ∙ ap (λ r. c.pop.new.self.items ++ option_to_list r) c.in-Some.is in
    let v = c.loop-hand.invariant in
    let t = part_in c.loop-hand.hands.items c.pop.new.self.items c.in-Some.hand (bags_of c.loop-hand.gather.slots) split c.args.arena.now c.loop-hand.arena c.bring.new.arena (in_hands c.args.hands.items ++ bags_of c.args.gather.now.slots)
    (bags_of c.bring.new.gather.slots) v.returns v.bags c.bring.ensures.returns c.bring.ensures.bags
    in
    record {
      returns = t.0;
      bags = t.1;
      jobs = c.bring.ensures.jobs ∙ v.jobs;
      hands = all_but_last (IsHandMadeWith c.args.templates.now) c.loop-hand.hands.items c.pop.new.self.items c.in-Some.hand split v.hands;
      made = c.bring.ensures.made;
    }
