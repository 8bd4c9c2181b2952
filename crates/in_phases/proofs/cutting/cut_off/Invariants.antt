use Rattle.in_reducer.specs.PartingLaws.{IsCutTimes}
use Rattle.in_phases.proofs.cutting.cut_off.Given as goal

abbrev pub invariant-loop-number : goal.invariant-loop-number
invariant-loop-number l = IsCutTimes l.fn.reducer l.cuts l.reducer
