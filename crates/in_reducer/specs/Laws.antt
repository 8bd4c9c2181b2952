-- Laws over reducers.
use Rattle.std.specs.Prelude.{ℕ, suc, List}
use Rattle.in_arena.specs.declared.content.CellCounts.{CellCounts}
use Rattle.in_net.specs.Nets.{Net, net_of}
use Rattle.in_check.specs.Checking.{IsAccepted}
use Rattle.in_check.specs.Programs.{Program}
use Rattle.in_check.specs.Promises.{IsAsPromised}
use Rattle.in_check.specs.Systems.{system_of}
use Rattle.in_order.specs.PartRuns.{Run}
use Rattle.in_reducer.specs.Limiting.{AreAllowed}
use Rattle.in_reducer.specs.Machines.{MachineParts, parts_of}
use Rattle.in_reducer.specs.Reducers.{IsReducer}
use Rattle.in_reducer.specs.Starts.{IsStart}
use Rattle.in_reducer.specs.Steps.{StepsAt}
use Rattle.in_syntax.specs.declared.text_limits.TextLimits.{TextLimits}

-- the net that a reducer shows is as promised
abbrev pub ReducersAsPromised : Type 0
ReducersAsPromised = (m : MachineParts) → IsReducer m → IsAsPromised (system_of m.program) (net_of (parts_of m))

-- an interaction of a reducer leads to a reducer, and makes a run one interaction longer
abbrev pub StepsKeepReducers : Type 0
StepsKeepReducers = (m o : MachineParts) (i : ℕ) → IsReducer m → StepsAt m i o →
    IsReducer o × ((k : ℕ) (n : Net ℕ) → Run (system_of m.program) k n (net_of (parts_of m)) → Run (system_of m.program) (suc k) n (net_of (parts_of o)))

-- a start of an accepted program is a reducer
abbrev pub StartsAreReducers : Type 0
StartsAreReducers = (limits : TextLimits) (text : List ℕ) (p : Program) (cells : CellCounts) (m : MachineParts) → IsAccepted limits text p → AreAllowed cells → IsStart p cells m → IsReducer m
