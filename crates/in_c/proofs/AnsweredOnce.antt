-- Each call has one result on a text, if memory didn't run out.
use Rattle.std.proofs.Common.{◌≡◌, ◌≢◌, ◌⊎◌, inl, inr, ℕ, List, ◌++◌, take, drop, length, Bool, true, false, Ok, Err, refl, sym, ◌∙◌, ap, subst}
use Rattle.in_syntax.specs.declared.faults.Fault.TheVariants.{Refused}
use Rattle.in_syntax.specs.declared.text_limits.TextLimits.{TextLimits}
use Rattle.in_check.specs.Checking.{IsCertified}
use Rattle.in_check.specs.Programs.{Certified}
use Rattle.in_check.proofs.Public.{checked_once}
use Rattle.in_limits.specs.declared.limits.Limits.{Limits}
use Rattle.in_limits.proofs.Public.{one_limits}
use Rattle.in_command_line.specs.declared.action.Action.{Action}
use Rattle.in_command_line.specs.declared.action.Action.TheVariants.{Run}
use Rattle.in_export.specs.Exporting.{TextsAreExportedOnce}
use Rattle.in_certificates.specs.declared.given.GivenStep.{GivenStep}
use Rattle.in_certificates.specs.Given.{steps_of}
use Rattle.in_certificates.specs.Laws.{StepsAreJudgedOnce}
use Rattle.in_certificates.specs.Verifying.{AreStepsOf, Verifies, item_of, shape_of}
use Rattle.in_program.specs.declared.acting.Status.{Status}
use Rattle.in_program.specs.Acting.{memory_status, status}
use Rattle.in_program.specs.Laws.{TakesTurns, TextsAreAnsweredOnce}
use Rattle.in_program.specs.Lines.{refused_line}
use Rattle.in_c.specs.declared.refusing.Numbers.{Numbers}
use Rattle.in_c.specs.Answers.{GivesAnswer, IsDiagnosis, refused, accepted, wanting, IsDiagnosisData, IsExported, IsRefusedAs, IsRunSaid, IsSaid, IsVerified, SaysWhether}
use Rattle.in_c.specs.Giving.{IsGiven}
use Rattle.in_c.specs.Laws.{AnswersOnce, DiagnosesHaveOneStatus, ExportAnswersAreOne, HasOneStatus, RefusalNumbersAreOne, ReportsAreOne, RunAnswersAreOne, VerdictsAreOne}
use Rattle.in_c.specs.Numbers.{numbers_of}

pub number_of : (s t : ℕ) → status s ≡ status t → s ≡ t
number_of s t e = ap (λ (z : Status). z.0) e

-- the same bytes lead to one room and one length
pub given_alike : (one other old new more : List ℕ) (count many : ℕ) → one ≡ other → IsGiven one old new count → IsGiven other old more many → (new ≡ more) × (count ≡ many)
given_alike one other old new more count many same h g =
    (h.front ∙ ap (λ (z : List ℕ). take (length old) z ++ drop (length z) old) same ∙ sym g.front, h.all ∙ ap (λ (z : List ℕ). length z) same ∙ sym g.all)

-- ---- one room, from one line and one status

abbrev IsOneAnswer : (List ℕ → Status → Type 0) → Type 0
IsOneAnswer So = (one other : List ℕ) (s t : Status) → So one s → s ≢ memory_status → So other t → t ≢ memory_status → (one ≡ other) × (s ≡ t)

abbrev IsOneStatus : (List ℕ → Status → Type 0) → Type 0
IsOneStatus So = (one other : List ℕ) (s t : Status) → So one s → s ≢ memory_status → So other t → t ≢ memory_status → s ≡ t

once : (So : List ℕ → Status → Type 0) → IsOneAnswer So → AnswersOnce (GivesAnswer So)
once So same old new more count many s t (one, so, given) had (other, too, gives) has =
    let alike = same one other (status s) (status t) so had too has in
    let here = given_alike one other old new more count many alike.0 given gives in
    (here.0, here.1, number_of s t alike.1)

one_status : (So : List ℕ → Status → Type 0) → IsOneStatus So → HasOneStatus (GivesAnswer So)
one_status So same old new more count many s t (one, so, given) had (other, too, gives) has = number_of s t (same one other (status s) (status t) so had too has)

-- ---- output of the program

said_once : TextsAreAnsweredOnce → (limits : TextLimits) (a : Action) (text : List ℕ) → TakesTurns a → IsOneAnswer (IsSaid limits a text)
said_once law limits a text turns one other s t (inl h) had (inl g) has = law limits a text one other s t turns h g
said_once law limits a text turns one other s t (inl h) had (inr g) has = absurd (has g.1)
said_once law limits a text turns one other s t (inr h) had g has = absurd (had h.1)

pub reports_are_one : TextsAreAnsweredOnce → ReportsAreOne
reports_are_one law limits a text turns = once (IsSaid limits a text) (said_once law limits a text turns)

run_said_once : TextsAreAnsweredOnce → (limits : TextLimits) (limit cells : ℕ) (text : List ℕ) → IsOneAnswer (IsRunSaid limits limit cells text)
run_said_once law limits limit cells text one other s t (inl (l, are, says)) had (inl (k, too, tells)) has =
    let same : l ≡ k = one_limits l k (are.1 ∙ sym too.1) (are.2 ∙ sym too.2) (are.3 ∙ sym too.3) in
    said_once law limits (Run k) text too.1 one other s t (subst (λ (z : Limits). IsSaid limits (Run z) text one s) same says) had tells has
run_said_once law limits limit cells text one other s t (inl (l, are, says)) had (inr (none, nothing, is)) has = absurd (none are.0)
run_said_once law limits limit cells text one other s t (inr (none, nothing, is)) had (inl (k, too, tells)) has = absurd (none too.0)
run_said_once law limits limit cells text one other s t (inr (none, nothing, is)) had (inr (nowhere, none_too, was)) has = (nothing ∙ sym none_too, is ∙ sym was)

pub run_answers_are_one : TextsAreAnsweredOnce → RunAnswersAreOne
run_answers_are_one law limits limit cells text = once (IsRunSaid limits limit cells text) (run_said_once law limits limit cells text)

-- ---- exports

exported_once : TextsAreExportedOnce → (limits : TextLimits) (text : List ℕ) → IsOneAnswer (IsExported limits text)
exported_once law limits text one other s t (inl (p, accepts, both)) had (inl (q, accepts_too, each)) has = (law limits text (Ok one) (Ok other) (p, accepts, both.0) (q, accepts_too, each.0), both.1 ∙ sym each.1)
exported_once law limits text one other s t (inl (p, accepts, both)) had (inr (inl (r, refuses, each))) has = absurd (checked_once limits text (Ok p) (Err (Refused r)) accepts refuses)
exported_once law limits text one other s t (inr (inl (r, refuses, both))) had (inl (q, accepts, each)) has = absurd (checked_once limits text (Err (Refused r)) (Ok q) refuses accepts)
exported_once law limits text one other s t (inr (inl (r, refuses, both))) had (inr (inl (q, refuses_too, each))) has =
    (both.0 ∙ ap (refused_line text) (checked_once limits text (Err (Refused r)) (Err (Refused q)) refuses refuses_too) ∙ sym each.0, both.1 ∙ sym each.1)
exported_once law limits text one other s t (inr (inr wants)) had g has = absurd (had wants.1)
exported_once law limits text one other s t (inl h) had (inr (inr wants)) has = absurd (has wants.1)
exported_once law limits text one other s t (inr (inl h)) had (inr (inr wants)) has = absurd (has wants.1)

pub export_answers_are_one : TextsAreExportedOnce → ExportAnswersAreOne
export_answers_are_one law limits text = once (IsExported limits text) (exported_once law limits text)

-- ---- diagnoses

diagnosed_once : (limits : TextLimits) (text : List ℕ) → IsOneStatus (IsDiagnosis limits text)
diagnosed_once limits text one other s t (refused told is) had (refused told_too was) has = is ∙ sym was
diagnosed_once limits text one other s t (refused (r, refuses) is) had (accepted (p, accepts) none was) has = absurd (checked_once limits text (Err (Refused r)) (Ok p) refuses accepts)
diagnosed_once limits text one other s t (accepted (p, accepts) none is) had (refused (r, refuses) was) has = absurd (checked_once limits text (Ok p) (Err (Refused r)) accepts refuses)
diagnosed_once limits text one other s t (accepted told none is) had (accepted told_too none_too was) has = is ∙ sym was
diagnosed_once limits text one other s t (wanting none is) had g has = absurd (had is)
diagnosed_once limits text one other s t (refused told is) had (wanting none was) has = absurd (has was)
diagnosed_once limits text one other s t (accepted told none is) had (wanting none_too was) has = absurd (has was)

data_once : (limits : TextLimits) (text : List ℕ) → IsOneStatus (IsDiagnosisData limits text)
data_once limits text one other s t (inl (r, refuses, both)) had (inl (q, refuses_too, each)) has = both.1 ∙ sym each.1
data_once limits text one other s t (inl (r, refuses, both)) had (inr (inl (p, accepts, each))) has = absurd (checked_once limits text (Err (Refused r)) (Ok p) refuses accepts)
data_once limits text one other s t (inr (inl (p, accepts, both))) had (inl (r, refuses, each)) has = absurd (checked_once limits text (Ok p) (Err (Refused r)) accepts refuses)
data_once limits text one other s t (inr (inl (p, accepts, both))) had (inr (inl (q, accepts_too, each))) has = both.1 ∙ sym each.1
data_once limits text one other s t (inr (inr wants)) had g has = absurd (had wants.1)
data_once limits text one other s t (inl h) had (inr (inr wants)) has = absurd (has wants.1)
data_once limits text one other s t (inr (inl h)) had (inr (inr wants)) has = absurd (has wants.1)

pub diagnoses_have_one_status : DiagnosesHaveOneStatus
diagnoses_have_one_status limits text = (one_status (IsDiagnosis limits text) (diagnosed_once limits text), one_status (IsDiagnosisData limits text) (data_once limits text))

-- ---- refusals as numbers

numbers_once : (limits : TextLimits) (text : List ℕ) (n m : Numbers) (s t : Status) → IsRefusedAs limits text n s → s ≢ memory_status → IsRefusedAs limits text m t → t ≢ memory_status → (n ≡ m) × (s ≡ t)
numbers_once limits text n m s t (inl (r, refuses, both)) had (inl (q, refuses_too, each)) has = (both.0 ∙ ap numbers_of (checked_once limits text (Err (Refused r)) (Err (Refused q)) refuses refuses_too) ∙ sym each.0, both.1 ∙ sym each.1)
numbers_once limits text n m s t (inl (r, refuses, both)) had (inr (inl (p, accepts, each))) has = absurd (checked_once limits text (Err (Refused r)) (Ok p) refuses accepts)
numbers_once limits text n m s t (inr (inl (p, accepts, both))) had (inl (r, refuses, each)) has = absurd (checked_once limits text (Ok p) (Err (Refused r)) accepts refuses)
numbers_once limits text n m s t (inr (inl (p, accepts, both))) had (inr (inl (q, accepts_too, each))) has = (both.0 ∙ sym each.0, both.1 ∙ sym each.1)
numbers_once limits text n m s t (inr (inr wants)) had g has = absurd (had wants.1)
numbers_once limits text n m s t (inl h) had (inr (inr wants)) has = absurd (has wants.1)
numbers_once limits text n m s t (inr (inl h)) had (inr (inr wants)) has = absurd (has wants.1)

pub refusal_numbers_are_one : RefusalNumbersAreOne
refusal_numbers_are_one limits text n m s t h had g has =
    let alike = numbers_once limits text n m (status s) (status t) h had g has in
    (alike.0, number_of s t alike.1)

-- ---- verdicts

abbrev only_false : Bool → Type 0
only_false true = ⊥
only_false false = Unit {0}

not_true : false ≡ true → ⊥
not_true e = subst only_false e tt

module _ (law : StepsAreJudgedOnce) (limits : TextLimits) (text : List ℕ) (k : ℕ) (given : List GivenStep) (parts : List ℕ) where
  abbrev Builds : Certified → Type 0
  Builds p = AreStepsOf (shape_of p (item_of p.program k)) (steps_of parts given)

  yes : (p : Certified) → IsCertified limits text p → Builds p → Verifies limits text k given parts (Ok true)
  yes p accepts steps = (p, accepts, (λ e. steps, λ x. refl))

  no : (p : Certified) → IsCertified limits text p → (Builds p → ⊥) → Verifies limits text k given parts (Ok false)
  no p accepts never = (p, accepts, (λ e. absurd (not_true e), λ x. absurd (never x)))

  not_both : (p q : Certified) → IsCertified limits text p → Builds p → IsCertified limits text q → (Builds q → ⊥) → ⊥
  not_both p q accepts steps accepts_too never = not_true (law limits text k given parts (Ok false) (Ok true) (no q accepts_too never) (yes p accepts steps))

  judged : (p q : Certified) (s t : Status) → IsCertified limits text p → IsCertified limits text q → SaysWhether (Builds p) s → SaysWhether (Builds q) t → s ≡ t
  judged p q s t accepts accepts_too (inl h) (inl g) = h.1 ∙ sym g.1
  judged p q s t accepts accepts_too (inl h) (inr g) = absurd (not_both p q accepts h.0 accepts_too g.0)
  judged p q s t accepts accepts_too (inr h) (inl g) = absurd (not_both q p accepts_too g.0 accepts h.0)
  judged p q s t accepts accepts_too (inr h) (inr g) = h.1 ∙ sym g.1

  verdict_once : (s t : Status) → IsVerified limits text k given parts s → s ≢ memory_status → IsVerified limits text k given parts t → t ≢ memory_status → s ≡ t
  verdict_once s t (inl (p, accepts, says)) had (inl (q, accepts_too, tells)) has = judged p q s t accepts accepts_too says tells
  verdict_once s t (inl (p, accepts, says)) had (inr (inl (r, refuses, was))) has = absurd (checked_once limits text (Ok p) (Err (Refused r)) accepts refuses)
  verdict_once s t (inr (inl (r, refuses, is))) had (inl (q, accepts, tells)) has = absurd (checked_once limits text (Err (Refused r)) (Ok q) refuses accepts)
  verdict_once s t (inr (inl (r, refuses, is))) had (inr (inl (q, refuses_too, was))) has = is ∙ sym was
  verdict_once s t (inr (inr wants)) had g has = absurd (had wants)
  verdict_once s t (inl h) had (inr (inr wants)) has = absurd (has wants)
  verdict_once s t (inr (inl h)) had (inr (inr wants)) has = absurd (has wants)

pub verdicts_are_one : StepsAreJudgedOnce → VerdictsAreOne
verdicts_are_one law limits text k given parts s t h had g has = number_of s t (verdict_once law limits text k given parts (status s) (status t) h had g has)
