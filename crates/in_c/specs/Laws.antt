-- Laws on the results of the calls: a text with its limits has one result, if memory didn't run out.
use Rattle.std.specs.Prelude.{◌≡◌, ◌≢◌, ℕ, List}
use Rattle.in_syntax.specs.declared.text_limits.TextLimits.{TextLimits}
use Rattle.in_command_line.specs.declared.action.Action.{Action}
use Rattle.in_program.specs.Acting.{memory_status, status}
use Rattle.in_program.specs.Laws.{TakesTurns}
use Rattle.in_certificates.specs.declared.given.GivenStep.{GivenStep}
use Rattle.in_c.specs.declared.refusing.Numbers.{Numbers}
use Rattle.in_c.specs.declared.choosing.RunNumbers.{RunNumbers}
use Rattle.in_c.specs.Answers.{Answers, AnswersExport, AnswersRun, AnswersRunBy, Diagnoses, DiagnosesAsData, IsRefusedAs, IsVerified}

-- the call did not run out of memory
abbrev pub HadMemory : ℕ → Type 0
HadMemory s = status s ≢ memory_status

-- two calls with one room before have one room after, one length and one status
abbrev pub AnswersOnce : (List ℕ → List ℕ → ℕ → ℕ → Type 0) → Type 0
AnswersOnce Call = (old new more : List ℕ) (count many s t : ℕ) → Call old new count s → HadMemory s → Call old more many t → HadMemory t → (new ≡ more) × (count ≡ many) × (s ≡ t)

-- .. one status
abbrev pub HasOneStatus : (List ℕ → List ℕ → ℕ → ℕ → Type 0) → Type 0
HasOneStatus Call = (old new more : List ℕ) (count many s t : ℕ) → Call old new count s → HadMemory s → Call old more many t → HadMemory t → s ≡ t

-- of `inet_check` and `inet_derive`, by the usual and by the large limits; so for each call below
abbrev pub ReportsAreOne : Type 0
ReportsAreOne = (limits : TextLimits) (a : Action) (text : List ℕ) → TakesTurns a → AnswersOnce (Answers limits a text)

-- of `inet_run`
abbrev pub RunAnswersAreOne : Type 0
RunAnswersAreOne = (limits : TextLimits) (limit cells : ℕ) (text : List ℕ) → AnswersOnce (AnswersRun limits limit cells text)

-- of `inet_run_by`, and its numbers
abbrev pub RunByAnswersAreOne : Type 0
RunByAnswersAreOne = (limits : TextLimits) (limit cells : ℕ) (text choices old new more : List ℕ) (n m : RunNumbers) (count many s t : ℕ) → AnswersRunBy limits limit cells text choices n old new count s → HadMemory s
    → AnswersRunBy limits limit cells text choices m old more many t → HadMemory t → (new ≡ more) × (count ≡ many) × (n ≡ m) × (s ≡ t)

-- of `inet_export`
abbrev pub ExportAnswersAreOne : Type 0
ExportAnswersAreOne = (limits : TextLimits) (text : List ℕ) → AnswersOnce (AnswersExport limits text)

-- of `inet_diagnose` and `inet_diagnose_data`, whose words are open
abbrev pub DiagnosesHaveOneStatus : Type 0
DiagnosesHaveOneStatus = (limits : TextLimits) (text : List ℕ) → HasOneStatus (Diagnoses limits text) × HasOneStatus (DiagnosesAsData limits text)

-- of `inet_refusal`
abbrev pub RefusalNumbersAreOne : Type 0
RefusalNumbersAreOne = (limits : TextLimits) (text : List ℕ) (n m : Numbers) (s t : ℕ) → IsRefusedAs limits text n (status s) → HadMemory s → IsRefusedAs limits text m (status t) → HadMemory t → (n ≡ m) × (s ≡ t)

-- of `inet_verify`
abbrev pub VerdictsAreOne : Type 0
VerdictsAreOne = (limits : TextLimits) (text : List ℕ) (k : ℕ) (given : List GivenStep) (parts : List ℕ) (s t : ℕ) → IsVerified limits text k given parts (status s) → HadMemory s → IsVerified limits text k given parts (status t) → HadMemory t → s ≡ t
