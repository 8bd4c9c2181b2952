use Rattle.std.proofs.Common.{◌++◌, ap, ◌∙◌}
use Rattle.std.specs.Option.{option_to_list}
use Rattle.in_rounds.specs.declared.gather.JobState.TheVariants.{Kept}
use Rattle.in_rounds.proofs.Keeping.{last_slot, last_is_bag, last_returned, none_kept}
use Rattle.in_rounds.proofs.gather.spend_all.Goals as goal

pub spend-requires : goal.spend-requires
spend-requires c = last_is_bag c.loop-slot.arena c.loop-slot.slots.items c.pop.new.self.items c.in-Kept.done (last_slot c.loop-slot.slots.items c.pop.new.self.items c.pop.result c.in-Some.slot (Kept c.in-Kept.done) c.pop.ensures.items c.in-Some.is c.in-Kept.is) c.loop-slot.invariant.of

pub loop-slot-preserved-in-Kept : goal.loop-slot-preserved-in-Kept
loop-slot-preserved-in-Kept c =
    let split = last_slot c.loop-slot.slots.items c.pop.new.self.items c.pop.result c.in-Some.slot (Kept c.in-Kept.done) c.pop.ensures.items c.in-Some.is c.in-Kept.is in
    let t = last_returned c.args.arena.now c.loop-slot.arena c.spend.new.arena c.args.slots.items c.loop-slot.slots.items c.pop.new.self.items c.in-Kept.done split c.loop-slot.invariant.of c.loop-slot.invariant.back c.spend.ensures in
    record { of = t.0; back = t.1 }

pub loop-slot-preserved : goal.loop-slot-preserved
loop-slot-preserved c =
    let split = c.pop.ensures.items ∙ ap (λ r. c.pop.new.self.items ++ option_to_list r) c.in-Some.is in
    let t = none_kept c.args.arena.now c.loop-slot.arena c.args.slots.items c.loop-slot.slots.items c.pop.new.self.items c.in-Some.slot split c.in_default-slot.not-Kept c.loop-slot.invariant.of c.loop-slot.invariant.back in
    record { of = t.0; back = t.1 }
