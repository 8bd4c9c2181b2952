-- The result of a call on a text. The output on a text is the program's: see the definitions of `in_program`.
use Rattle.std.specs.Prelude.{◌≡◌, ◌⊎◌, ℕ, true, false, List, [], Some, None}
use Rattle.in_syntax.specs.declared.faults.Refusal.{Refusal}
use Rattle.in_syntax.specs.declared.text_limits.TextLimits.{TextLimits}
use Rattle.in_check.specs.Checking.{IsCertified, IsRefused}
use Rattle.in_check.specs.Programs.{Certified}
use Rattle.in_export.specs.Programs.{program_line}
use Rattle.in_certificates.specs.declared.given.GivenStep.{GivenStep}
use Rattle.in_certificates.specs.Given.{steps_of}
use Rattle.in_certificates.specs.Verifying.{AreStepsOf, item_of, shape_of}
use Rattle.in_diagnosis.specs.Data.{IsDataOf}
use Rattle.in_diagnosis.specs.Programs.{IsToldOfText}
use Rattle.in_limits.specs.AllowedLimits.{AreLimits}
use Rattle.in_limits.specs.declared.limits.Limits.{Limits}
use Rattle.in_command_line.specs.declared.action.Action.{Action}
use Rattle.in_command_line.specs.declared.action.Action.TheVariants.{Run}
use Rattle.in_program.specs.declared.acting.Status.{Status}
use Rattle.in_program.specs.Acting.{IsReply, WantsMemory, memory_status, status}
use Rattle.in_program.specs.Lines.{refused_line}
use Rattle.in_c.specs.declared.refusing.Numbers.{Numbers}
use Rattle.in_c.specs.declared.choosing.RunNumbers.{RunNumbers}
use Rattle.in_c.specs.declared.choosing.Shown.{Shown}
use Rattle.in_c.specs.Choosing.{IsRunBy}
use Rattle.in_c.specs.Giving.{IsGiven}
use Rattle.in_c.specs.Numbers.{no_numbers, numbers_of}

-- the program's reply to the text with these limits, or that memory ran out
abbrev pub IsSaid : TextLimits → Action → List ℕ → List ℕ → Status → Type 0
IsSaid limits a text lines s = IsReply limits a text lines s ⊎ WantsMemory lines s

-- .. to a run with one worker within these numbers; if one of them is out of range, no byte and the status of wrong words
abbrev pub IsRunSaid : TextLimits → ℕ → ℕ → List ℕ → List ℕ → Status → Type 0
IsRunSaid limits limit cells text lines s =
    ((l : Limits) × AreLimits 1 limit cells (Some l) × IsSaid limits (Run l) text lines s) ⊎ (AreLimits 1 limit cells None × (lines ≡ []) × (s ≡ status 2))

-- the diagnosis of a refused text; nothing for an accepted one; or nothing, when out of memory
pub data IsDiagnosis (limits : TextLimits) (text words : List ℕ) (s : Status) : Type 0 where
  refused : IsToldOfText limits text true → s ≡ status 1 → IsDiagnosis limits text words s
  accepted : IsToldOfText limits text false → words ≡ [] → s ≡ status 0 → IsDiagnosis limits text words s
  wanting : words ≡ [] → s ≡ memory_status → IsDiagnosis limits text words s

-- the text is accepted, and its program has this property
abbrev pub OfProgram : TextLimits → List ℕ → (Certified → Type 0) → Type 0
OfProgram limits text So = (c : Certified) × IsCertified limits text c × So c

-- the text is refused, and its refusal has this property
abbrev pub OfRefusal : TextLimits → List ℕ → (Refusal → Type 0) → Type 0
OfRefusal limits text So = (r : Refusal) × IsRefused limits text r × So r

-- the diagnosis as data of a refused text; nothing for an accepted one; or nothing, when out of memory
abbrev pub IsDiagnosisData : TextLimits → List ℕ → List ℕ → Status → Type 0
IsDiagnosisData limits text line s =
    OfRefusal limits text (λ r. IsDataOf r line × (s ≡ status 1)) ⊎ (OfProgram limits text (λ c. (line ≡ []) × (s ≡ status 0)) ⊎ ((line ≡ []) × (s ≡ memory_status)))

-- the line of the text's program, or that of its refusal, or that memory ran out
abbrev pub IsExported : TextLimits → List ℕ → List ℕ → Status → Type 0
IsExported limits text line s =
    OfProgram limits text (λ c. (line ≡ program_line c) × (s ≡ status 0)) ⊎ (OfRefusal limits text (λ r. (line ≡ refused_line text r) × (s ≡ status 1)) ⊎ WantsMemory line s)

-- the numbers of the text's refusal; none if it is accepted, or when out of memory
abbrev pub IsRefusedAs : TextLimits → List ℕ → Numbers → Status → Type 0
IsRefusedAs limits text n s =
    OfRefusal limits text (λ r. (n ≡ numbers_of r) × (s ≡ status 1)) ⊎ (OfProgram limits text (λ c. (n ≡ no_numbers) × (s ≡ status 0)) ⊎ ((n ≡ no_numbers) × (s ≡ memory_status)))

-- status 0 if this holds, and that of wrong words if it doesn't
abbrev pub SaysWhether : Type 0 → Status → Type 0
SaysWhether So s = (So × (s ≡ status 0)) ⊎ ((So → ⊥) × (s ≡ status 2))

-- the status says whether these numbers are steps that build the rule of that number, or the net, of the text's program; or there is no program
abbrev pub IsVerified : TextLimits → List ℕ → ℕ → List GivenStep → List ℕ → Status → Type 0
IsVerified limits text k given parts s =
    OfProgram limits text (λ c. SaysWhether (AreStepsOf (shape_of c (item_of c.program k)) (steps_of parts given)) s) ⊎ (OfRefusal limits text (λ r. s ≡ status 1) ⊎ (s ≡ memory_status))

-- bytes with this relation to this status are given, and their count is `count`
abbrev pub GivesAnswer : (List ℕ → Status → Type 0) → List ℕ → List ℕ → ℕ → ℕ → Type 0
GivesAnswer So old new count s = (bytes : List ℕ) × So bytes (status s) × IsGiven bytes old new count

-- ---- the result of each call

abbrev pub Answers : TextLimits → Action → List ℕ → List ℕ → List ℕ → ℕ → ℕ → Type 0
Answers limits a text old new count s = GivesAnswer (IsSaid limits a text) old new count s

abbrev pub AnswersRun : TextLimits → ℕ → ℕ → List ℕ → List ℕ → List ℕ → ℕ → ℕ → Type 0
AnswersRun limits limit cells text old new count s = GivesAnswer (IsRunSaid limits limit cells text) old new count s

abbrev pub Diagnoses : TextLimits → List ℕ → List ℕ → List ℕ → ℕ → ℕ → Type 0
Diagnoses limits text old new count s = GivesAnswer (IsDiagnosis limits text) old new count s

abbrev pub DiagnosesAsData : TextLimits → List ℕ → List ℕ → List ℕ → ℕ → ℕ → Type 0
DiagnosesAsData limits text old new count s = GivesAnswer (IsDiagnosisData limits text) old new count s

abbrev pub AnswersExport : TextLimits → List ℕ → List ℕ → List ℕ → ℕ → ℕ → Type 0
AnswersExport limits text old new count s = GivesAnswer (IsExported limits text) old new count s

-- the view of the run is given: its bytes, its numbers and its status
abbrev pub AnswersRunBy : TextLimits → ℕ → ℕ → List ℕ → List ℕ → RunNumbers → List ℕ → List ℕ → ℕ → ℕ → Type 0
AnswersRunBy limits limit cells text choices n old new count s = (a : Shown) × IsRunBy limits text choices limit cells a × (n ≡ a.numbers) × (status s ≡ a.status) × IsGiven a.bytes.items old new count
