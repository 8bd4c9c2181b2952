-- The output of the program: the lines that it writes on the text that it reads, and its status.
use Rattle.std.specs.Prelude.{◌≡◌, ◌⊎◌, ◌++◌, ℕ, Bool, true, false, List, [], Ok, string_bytes}
use Rattle.in_syntax.specs.Streams.{Device, Reader}
use Rattle.in_syntax.specs.declared.faults.Refusal.{Refusal}
use Rattle.in_syntax.specs.declared.text_limits.TextLimits.{TextLimits}
use Rattle.in_syntax.specs.declared.text_limits.TextLimits.TheVariants.{Usual, Large}
use Rattle.in_command_line.specs.declared.action.Action.{Action}
use Rattle.in_command_line.specs.declared.action.Action.TheVariants.{Check, Derive, Run, Count}
use Rattle.in_limits.specs.declared.limits.Limits.{Limits}
use Rattle.in_command_line.specs.declared.action.Usage.{Usage}
use Rattle.in_command_line.specs.declared.action.Usage.TheVariants.{Wrong, Help, Version, Memory}
use Rattle.in_program.specs.declared.acting.Status.{Status}
use Rattle.in_check.specs.Checking.{IsAccepted, IsCertified, IsRefused}
use Rattle.in_check.specs.Programs.{Certified, Program, counts_of}
use Rattle.in_arena.specs.declared.content.CellClass.{CellClass}
use Rattle.in_print.specs.Devices.{Moves}
use Rattle.in_machine.specs.Texts.{text_of}
use Rattle.in_run.specs.declared.stops.Stop.{Stop}
use Rattle.in_run.specs.declared.stops.Stop.TheVariants.{Normal, Limit, Full}
use Rattle.in_reducer.specs.Machines.{MachineParts}
use Rattle.in_order.specs.Ends.{Ends}
use Rattle.in_machine.specs.Starts.{DoesNotFit}
use Rattle.in_run.specs.Outcomes.{RunsTo}
use Rattle.in_program.specs.Devices.{Gives, Fails, BreaksWithin, IsEnoughText}
use Rattle.in_program.specs.Lines.{accepted_line, refused_line, memory_line, run_lines, start_line}
use Rattle.in_program.specs.Steps.{derivation_lines}

abbrev pub status : ℕ → Status
status n = record { 0 = n }

-- the status of a call in which a read or a write failed
abbrev pub fault_status : Status
fault_status = status 6

-- .. and of running out of memory
abbrev pub memory_status : Status
memory_status = status 5

-- the finding on an accepted program: its counts; the steps that build it; the machine at the end of its net's run, with the number of interactions
-- and the stop; the same without the net; or that its net doesn't fit the cells
pub data Finding : Type 0 where
  counted : Finding
  derived : Finding
  ran : MachineParts → ℕ → Stop → Finding
  stopped : MachineParts → ℕ → Stop → Finding
  full : CellClass → ℕ → ℕ → Finding

-- the finding is of the kind that this action requests, and it is true
abbrev pub IsFinding : Action → Program → Finding → Type 0
IsFinding Check p counted = Unit {0}
IsFinding Derive p derived = Unit {0}
IsFinding (Run l) p (ran m k s) = RunsTo p l (Ok (record { machine = m; interactions = k; stop = s }))
IsFinding (Run l) p (full c need free) = DoesNotFit p l.cells c need free
IsFinding (Count l) p (stopped m k s) = RunsTo p l (Ok (record { machine = m; interactions = k; stop = s }))
IsFinding (Count l) p (full c need free) = DoesNotFit p l.cells c need free
IsFinding _ p _ = ⊥

-- its lines: for a run the net, if it is shown, and then the count and the stop
abbrev pub finding_lines : Certified → Finding → List ℕ
finding_lines p counted = accepted_line (counts_of p.program)
finding_lines p derived = derivation_lines p
finding_lines p (ran m k s) = text_of m ++ run_lines k s
finding_lines p (stopped m k s) = run_lines k s
finding_lines p (full c need free) = start_line c need free

abbrev pub stop_status : Stop → Status
stop_status Normal = status 0
stop_status Limit = status 3
stop_status (Full c need free) = status 4

abbrev pub finding_status : Finding → Status
finding_status counted = status 0
finding_status derived = status 0
finding_status (ran m k s) = stop_status s
finding_status (stopped m k s) = stop_status s
finding_status (full c need free) = status 4

-- the output of the program on a text
pub data Report : Type 0 where
  accepted : Certified → Finding → Report
  refused : Refusal → Report

-- the output is right for the action and the text, by the limits of the text
abbrev pub IsReport : TextLimits → Action → List ℕ → Report → Type 0
IsReport limits a text (accepted p f) = IsCertified limits text p × IsFinding a p.program f
IsReport limits a text (refused r) = IsRefused limits text r

abbrev pub lines_of : List ℕ → Report → List ℕ
lines_of text (accepted p f) = finding_lines p f
lines_of text (refused r) = refused_line text r

abbrev pub status_of : Report → Status
status_of (accepted p f) = finding_status f
status_of (refused r) = status 1

-- if a run ends normally, its lines are those of each run of the program that ends, with interactions in any order: its text and its count
abbrev pub IsOfEachEnd : TextLimits → Action → List ℕ → List ℕ → Status → Type 0
IsOfEachEnd limits (Run l) text lines s = s ≡ status 0 → (p : Program) → IsAccepted limits text p → (k : ℕ) (written : List ℕ) → Ends p k written → lines ≡ written ++ run_lines k Normal
IsOfEachEnd limits (Count l) text lines s = s ≡ status 0 → (p : Program) → IsAccepted limits text p → (k : ℕ) (written : List ℕ) → Ends p k written → lines ≡ run_lines k Normal
IsOfEachEnd limits a text lines s = Unit {0}

-- the lines and the status are those of the output on the text
pub record IsReply (limits : TextLimits) (a : Action) (text lines : List ℕ) (s : Status) : Type 0 where
  pub report : Report
  pub so : IsReport limits a text report
  pub lines_are : lines ≡ lines_of text report
  pub status_is : s ≡ status_of report
  pub any_order : IsOfEachEnd limits a text lines s

-- the line of running out of memory, and its status
abbrev pub WantsMemory : List ℕ → Status → Type 0
WantsMemory lines s = (lines ≡ memory_line) × (s ≡ memory_status)

-- a possible output after these bytes are read: the reply to them, if they are enough, or that memory ran out
abbrev pub Says : TextLimits → Action → Bool → List ℕ → List ℕ → Status → Type 0
Says limits a ended text lines s = (IsEnoughText limits ended text × IsReply limits a text lines s) ⊎ WantsMemory lines s

-- the limits of a request's text: the large ones, or the usual ones
abbrev pub text_limits : Bool → TextLimits
text_limits true = Large
text_limits false = Usual

-- the action of `report`: `derive` or `check`
abbrev pub report_action : Bool → Action
report_action true = Derive
report_action false = Check

-- a run, with or without its net
abbrev pub run_action : Bool → Limits → Action
run_action true l = Run l
run_action false l = Count l

-- the effect of a call for this action on a text with these limits: from a reader r and a writer w to their states after it
pub data Acts (limits : TextLimits) (a : Action) (r r' : Reader) (w w' : Device) (s : Status) : Type 0 where
  -- bytes were read, and the lines on them written
  told : (text lines : List ℕ) → Gives limits r r' text → Says limits a r'.ended text lines s → Moves w w' lines → Acts limits a r r' w w' s
  -- a read failed, and nothing was written
  unread : (text : List ℕ) → Fails limits r r' text → w' ≡ w → s ≡ fault_status → Acts limits a r r' w w' s
  -- bytes were read, and a write failed within the lines on them
  unwritten : (text lines : List ℕ) (t : Status) → Gives limits r r' text → Says limits a r'.ended text lines t → BreaksWithin w w' lines → s ≡ fault_status →
      Acts limits a r r' w w' s

-- a line is written, and the status is this one; or a write failed within the line
abbrev pub Tells : Device → Device → List ℕ → Status → Status → Type 0
Tells w w' line s answer = (Moves w w' line × (answer ≡ s)) ⊎ (BreaksWithin w w' line × (answer ≡ fault_status))

-- help and running out of memory go to the output w, the fault of wrong words to the errors e, and the version to neither
abbrev pub TellsUsage : Device → Device → Device → Device → Usage → Status → Type 0
TellsUsage w w' e e' (Help text) answer = Tells w w' (string_bytes text) (status 0) answer × (e' ≡ e)
TellsUsage w w' e e' Version answer = (w' ≡ w) × (e' ≡ e) × (answer ≡ status 0)
TellsUsage w w' e e' (Wrong text) answer = (w' ≡ w) × (Moves e e' (string_bytes text) ⊎ BreaksWithin e e' (string_bytes text)) × (answer ≡ status 2)
TellsUsage w w' e e' Memory answer = Tells w w' memory_line memory_status answer × (e' ≡ e)

-- ---- words of the inner contracts

-- lines and a status with this relation are written, or that memory ran out
abbrev pub TellsOne : (List ℕ → Status → Type 0) → Device → Device → Status → Type 0
TellsOne So w w' answer = (lines : List ℕ) × (s : Status) × (So lines s ⊎ WantsMemory lines s) × Tells w w' lines s answer

-- the lines and the status are these
abbrev pub AreThese : List ℕ → Status → List ℕ → Status → Type 0
AreThese these this lines s = (lines ≡ these) × (s ≡ this)

-- the lines and the status are those of the finding on a program
abbrev pub AreFound : Action → Certified → List ℕ → Status → Type 0
AreFound a p lines s = (f : Finding) × IsFinding a p.program f × (lines ≡ finding_lines p f) × (s ≡ finding_status f)

-- the net's text, if it is shown
abbrev pub net_shown : Bool → List ℕ → List ℕ
net_shown true t = t
net_shown false t = []
