use Rattle.std.proofs.Common.{take}
use Rattle.in_chosen_runs.specs.Choosing.{StepsBy}
use Rattle.in_chosen_runs.proofs.choosing.choose.Given as goal

abbrev pub invariant-loop-index : goal.invariant-loop-index
invariant-loop-index l = StepsBy l.fn.machine (take l.index l.choices) l.machine
