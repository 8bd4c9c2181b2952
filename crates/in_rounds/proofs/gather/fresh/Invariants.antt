use Rattle.std.proofs.Common.{◌≡◌, ◌≤◌, replicate, vec_capacity}
use Rattle.in_rounds.specs.declared.gather.JobState.TheVariants.{Fresh}
use Rattle.in_rounds.proofs.gather.fresh.Given as goal

abbrev pub invariant-loop-made : goal.invariant-loop-made
invariant-loop-made l = record {
  made : l.slots.items ≡ replicate l._made Fresh;
  room : l.count ≤ vec_capacity l.slots;
}
