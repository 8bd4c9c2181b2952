-- The export of a refused text is the output of `check`.
use Rattle.std.proofs.Common.{◌≡◌, List, ℕ, Result, Ok, Err, IfOk, inl, inr, refl}
use Rattle.in_syntax.specs.declared.faults.Refusal.{Refusal}
use Rattle.in_syntax.specs.declared.text_limits.TextLimits.{TextLimits}
use Rattle.in_syntax.specs.declared.faults.Fault.TheVariants.{Refused}
use Rattle.in_check.specs.Checking.{IsRefused}
use Rattle.in_check.proofs.Public.{checked_once}
use Rattle.in_export.specs.Exporting.{Exports}
use Rattle.in_command_line.specs.declared.action.Action.TheVariants.{Check}
use Rattle.in_program.specs.declared.acting.Status.{Status}
use Rattle.in_program.specs.Acting.{IsReport, Report, accepted, lines_of, refused, status, status_of}
use Rattle.in_c.specs.declared.answers.Answer.{Answer}
use Rattle.in_c.specs.Answers.{IsExported, IsSaid}

pub line_exported : (limits : TextLimits) (text line : List ℕ) → Exports limits text (Ok line) → IsExported limits text line (status 0)
line_exported limits text line (p, accepts, is) = inl (p, accepts, (is, refl))

reported : (limits : TextLimits) (text line : List ℕ) (s : Status) (r : Refusal) (found : Report) → IsRefused limits text r → IsReport limits Check text found → line ≡ lines_of text found → s ≡ status_of found → IsExported limits text line s
reported limits text line s r (accepted p f) refuses (accepts, finds) lines is = absurd (checked_once limits text (Ok p) (Err (Refused r)) accepts refuses)
reported limits text line s r (refused q) refuses so lines is = inr (inl (q, so, (lines, is)))

refused_said : (limits : TextLimits) (text line : List ℕ) (s : Status) (r : Refusal) → IsRefused limits text r → IsSaid limits Check text line s → IsExported limits text line s
refused_said limits text line s r refuses (inl reply) = reported limits text line s r reply.report refuses reply.so reply.lines_are reply.status_is
refused_said limits text line s r refuses (inr wants) = inr (inr wants)

pub refused_answer : {E : Type 0} (limits : TextLimits) (text : List ℕ) (r : Refusal) (a : Result Answer E) → IsRefused limits text r → IfOk a (λ it. IsSaid limits Check text it.bytes.items it.status) → IfOk a (λ it. IsExported limits text it.bytes.items it.status)
refused_answer limits text r (Ok a) refuses said = refused_said limits text a.bytes.items a.status r refuses said
refused_answer limits text r (Err e) refuses said = tt
