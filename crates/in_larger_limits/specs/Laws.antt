-- Laws on the limits of a text, for every text.
use Rattle.std.specs.Prelude.{◌≢◌, ℕ, List, Result, Ok, Err}
use Rattle.in_syntax.specs.declared.faults.Code.TheVariants.{E03}
use Rattle.in_syntax.specs.declared.faults.Fault.{Fault}
use Rattle.in_syntax.specs.declared.faults.Fault.TheVariants.{Refused, Memory}
use Rattle.in_syntax.specs.declared.tree.Source.{Source}
use Rattle.in_syntax.specs.declared.text_limits.TextLimits.{TextLimits}
use Rattle.in_syntax.specs.declared.text_limits.TextLimits.TheVariants.{Large}
use Rattle.in_syntax.specs.Parsing.{Parses}
use Rattle.in_check.specs.Checking.{IsAccepted, IsChecked}
use Rattle.in_check.specs.Programs.{Certified, Program}

-- it isn't refused by a limit
abbrev pub IsOfNoLimit : {A : Type 0} → Result A Fault → Type 0
IsOfNoLimit (Ok a) = Unit {0}
IsOfNoLimit (Err (Refused r)) = r.code ≢ E03
IsOfNoLimit (Err (Memory e)) = Unit {0}

-- the same tree, read by these limits
abbrev pub read_by : TextLimits → Source → Source
read_by limits s = record s { limits = limits }

abbrev pub answer_by : TextLimits → Result Source Fault → Result Source Fault
answer_by limits (Ok s) = Ok (read_by limits s)
answer_by limits (Err f) = Err f

-- a text has the same tree or refusal by the large limits
abbrev pub TextsAreParsedAlike : Type 0
TextsAreParsedAlike = (limits : TextLimits) (text : List ℕ) (answer : Result Source Fault) → IsOfNoLimit answer → Parses limits text answer → Parses Large text (answer_by Large answer)

-- .. and the same program with the same certificates, or the same refusal
abbrev pub TextsAreCheckedAlike : Type 0
TextsAreCheckedAlike = (limits : TextLimits) (text : List ℕ) (answer : Result Certified Fault) → IsOfNoLimit answer → IsChecked limits text answer → IsChecked Large text answer

abbrev pub AcceptedByLarge : Type 0
AcceptedByLarge = (limits : TextLimits) (text : List ℕ) (p : Program) → IsAccepted limits text p → IsAccepted Large text p
