-- Laws over machines and their runs.
use Rattle.std.specs.Prelude.{◌≡◌, ◌<◌, ◌≤◌, ◌+◌, ◌++◌, ℕ, suc, List, [], length, map, drop}
use Rattle.in_arena.specs.declared.content.CellCounts.{CellCounts}
use Rattle.in_net.specs.Nets.{net_of}
use Rattle.in_check.specs.Checking.{IsAccepted}
use Rattle.in_check.specs.NetText.{IsQueue}
use Rattle.in_check.specs.Plain.{IsReachedBy}
use Rattle.in_check.specs.Programs.{Program}
use Rattle.in_check.specs.Promises.{IsAsPromised}
use Rattle.in_check.specs.Systems.{system_of}
use Rattle.in_order.specs.Ends.{EndsOnce}
use Rattle.in_interaction.specs.Queues.{numbers_of}
use Rattle.in_reducer.specs.Limiting.{AreAllowed}
use Rattle.in_reducer.specs.Machines.{MachineParts, parts_of, plain_of}
use Rattle.in_machine.specs.Machines.{IsMachine}
use Rattle.in_machine.specs.Together.{HasRoomFor}
use Rattle.in_reducer.specs.Reducers.{IsReducer}
use Rattle.in_reducer.specs.Steps.{HasRoomAt, StepsAt}
use Rattle.in_reducer.specs.Starts.{IsStart}
use Rattle.in_reducer.specs.Runs.{Runs}
use Rattle.in_reducer.specs.Same.{AreSame}
use Rattle.in_machine.specs.Texts.{text_of}
use Rattle.in_syntax.specs.declared.text_limits.TextLimits.{TextLimits}

-- the net that a machine shows is as promised
abbrev pub MachinesAsPromised : Type 0
MachinesAsPromised = (m : MachineParts) → IsMachine m → IsAsPromised (system_of m.program) (net_of (parts_of m))

-- its queue is one of the net, as the text of a net requires
abbrev pub QueuesAreQueues : Type 0
QueuesAreQueues = (m : MachineParts) → IsMachine m → IsQueue (net_of (parts_of m)) m.queue

-- a run of k steps reaches by k interactions more
abbrev pub RunsReach : Type 0
RunsReach = (m n : MachineParts) (j k : ℕ) → IsMachine m → IsReachedBy (plain_of m) j → Runs m k n → IsReachedBy (plain_of n) (k + j)

-- an interaction of a machine leads to a machine
abbrev pub StepsKeepMachines : Type 0
StepsKeepMachines = (m o : MachineParts) (i : ℕ) → IsMachine m → StepsAt m i o → IsMachine o

-- a machine is a reducer, so the laws over reducers that are the same up to numbers hold of machines
abbrev pub MachinesAreReducers : Type 0
MachinesAreReducers = (m : MachineParts) → IsMachine m → IsReducer m

-- a reducer that is the same as a machine is a machine
abbrev pub SameAreMachines : Type 0
SameAreMachines = (m n : MachineParts) → IsMachine m → AreSame m n → IsMachine n

-- .. and is reached by as many interactions
abbrev pub SameAreReached : Type 0
SameAreReached = (m n : MachineParts) (k : ℕ) → AreSame m n → IsReachedBy (plain_of m) k → IsReachedBy (plain_of n) k

-- an accepted program and a number of cells have one first machine, up to the numbers of its agents
abbrev pub StartsAreSame : Type 0
StartsAreSame = (limits : TextLimits) (text : List ℕ) (p : Program) (cells : CellCounts) (m n : MachineParts) → IsAccepted limits text p → IsStart p cells m → IsStart p cells n → AreSame m n

-- a start of an accepted program is a machine
abbrev pub StartsAreMachines : Type 0
StartsAreMachines = (limits : TextLimits) (text : List ℕ) (p : Program) (cells : CellCounts) (m : MachineParts) → IsAccepted limits text p → AreAllowed cells → IsStart p cells m → IsMachine m

-- a machine without active pairs is the only end of its program: each run that ends, in any order, has as many interactions and the same text
abbrev pub NormalEndsAreOne : Type 0
NormalEndsAreOne = (m : MachineParts) (k : ℕ) → IsMachine m → IsReachedBy (plain_of m) k → m.queue ≡ [] → EndsOnce m.program k (text_of m)

-- if there is room for the first k pairs together, each of them has room when its turn comes
abbrev pub RoomLasts : Type 0
RoomLasts = (m n : MachineParts) (j k : ℕ) → IsMachine m → HasRoomFor m k → Runs m j n → j < k → HasRoomAt n 0

-- after j interactions, first in, first out, the queue has the remaining pairs and then new ones; a further interaction adds its own at the end
abbrev pub QueuesMoveUp : Type 0
QueuesMoveUp = (m n : MachineParts) (j : ℕ) → Runs m j n → j ≤ length m.queue → (new : List (ℕ × ℕ)) × (n.queue ≡ drop j m.queue ++ new)
    × ((o : MachineParts) (s : StepsAt n 0 o) → suc j ≤ length m.queue → o.queue ≡ drop (suc j) m.queue ++ (new ++ map numbers_of s.made))
