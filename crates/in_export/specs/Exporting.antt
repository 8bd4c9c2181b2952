-- The result of exporting a text, and the law on it.
use Rattle.std.specs.Prelude.{◌≡◌, ℕ, List, Result, Ok, Err, Vec}
use Rattle.std.specs.Global.{Global}
use Rattle.in_syntax.specs.declared.faults.Fault.{Fault}
use Rattle.in_syntax.specs.declared.faults.Fault.TheVariants.{Refused, Memory}
use Rattle.in_syntax.specs.declared.text_limits.TextLimits.{TextLimits}
use Rattle.in_syntax.specs.Answers.{IsOne}
use Rattle.in_check.specs.Checking.{IsCertified, IsRefused}
use Rattle.in_check.specs.Programs.{Certified}
use Rattle.in_export.specs.Programs.{program_line}

-- the result with the bytes of the line
abbrev pub as_bytes : Result (Vec ℕ Global) Fault → Result (List ℕ) Fault
as_bytes (Ok line) = Ok line.items
as_bytes (Err f) = Err f

-- the line is that of the text's program, or the text has this refusal
abbrev pub Exports : TextLimits → List ℕ → Result (List ℕ) Fault → Type 0
Exports limits text (Ok line) = (c : Certified) × IsCertified limits text c × (line ≡ program_line c)
Exports limits text (Err (Refused r)) = IsRefused limits text r
Exports limits text (Err (Memory e)) = Unit {0}

-- all results that exporting may have for a text with its limits agree: one line, or one refusal, and never both
abbrev pub TextsAreExportedOnce : Type 0
TextsAreExportedOnce = (limits : TextLimits) (text : List ℕ) → IsOne (Exports limits text)
