use Rattle.std.proofs.Common.{subst}
use Rattle.in_reducer.specs.Machines.{AreNumbersBelow, MachineParts}
use Rattle.in_reducer.proofs.Parts.SplitBefore as before
use Rattle.in_reducer.proofs.reducer.Reducer.bound.Goals as goal

pub returns-clause-above : goal.returns-clause-above
returns-clause-above c = subst (λ (m : MachineParts). AreNumbersBelow m c.bound.result) c.self.view_is (before.below_bound c.self.inside.body c.self.invariant.all.net c.bound.result c.bound.ensures.rest)
