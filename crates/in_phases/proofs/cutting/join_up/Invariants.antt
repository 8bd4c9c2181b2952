use Rattle.std.proofs.Common.{◌≡◌, ◌-◌, ℕ}
use Rattle.in_reducer.specs.Machines.{MachineParts}
use Rattle.in_reducer.specs.Parting.{ReducesTo}
use Rattle.in_reducer.specs.PartingLaws.{IsCutTimes}
use Rattle.in_reducer.specs.Reducers.{IsReducer}
use Rattle.in_phases.proofs.Undoing.{IsCutAndReduced}
use Rattle.in_phases.proofs.cutting.join_up.Given as goal

abbrev pub invariant-loop-undone : goal.invariant-loop-undone
invariant-loop-undone l = record {
  back : (m cut : MachineParts) (k : ℕ) → IsReducer m → IsCutTimes m l.cuts cut → ReducesTo cut k l.fn.reducer → IsCutAndReduced m (l.cuts - l._undone) k l.reducer;
  vacant : l.reducer.vacant ≡ l.fn.reducer.vacant;
}
