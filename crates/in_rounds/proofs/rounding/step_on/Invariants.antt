use Rattle.std.proofs.Common.{◌≡◌, ◌≤◌, ◌<◌, ◌+◌, ◌-◌, ◌⊎◌, length}
use Rattle.in_compile.specs.Templates.{AreTemplatesOf}
use Rattle.in_reducer.specs.Machines.{MachineParts}
use Rattle.in_reducer.specs.Runs.{Runs}
use Rattle.in_rounds.proofs.rounding.step_on.Given as goal

abbrev pub invariant-loop-count : goal.invariant-loop-count
invariant-loop-count l = record {
  templates : AreTemplatesOf l.reducer.program l.templates;
  runs : (m : MachineParts) → Runs m l.fn.done l.fn.reducer → Runs m l.count l.reducer;
  from : l.fn.done ≤ l.count;
  most : l.count ≤ l.jobs;
  left : l.jobs ≤ l.count + length l.reducer.queue;
  first : (l.fn.done < l.count) ⊎ ((l.count ≡ l.fn.done) × (l.reducer ≡ l.fn.reducer));
}

abbrev pub decreases-loop-count : goal.decreases-loop-count
decreases-loop-count l = l.jobs - l.count
