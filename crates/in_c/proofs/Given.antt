-- Properties of an answer to the caller, and of the result when out of memory.
use Rattle.std.proofs.Common.{◌≡◌, List, ℕ, sym, subst, Result, Ok, Err, IfOk, OnErr}
use Rattle.in_program.specs.declared.acting.Status.{Status}
use Rattle.in_program.specs.Acting.{memory_status, status}
use Rattle.in_program.specs.Lines.{memory_line}
use Rattle.in_c.specs.declared.answers.Answer.{Answer}
use Rattle.in_c.specs.Answers.{GivesAnswer}
use Rattle.in_c.specs.Giving.{IsGiven}

pub gives : {E : Type 0} (So : List ℕ → Status → Type 0) (r : Result Answer E) (old new : List ℕ) (count s : ℕ) → IfOk r (λ a. So a.bytes.items a.status) → OnErr r (So memory_line memory_status) →
    IfOk r (λ a. IsGiven a.bytes.items old new count × (a.status ≡ status s)) → OnErr r (IsGiven memory_line old new count × (status s ≡ memory_status)) → GivesAnswer So old new count s
gives So (Ok a) old new count s so wants (given, is) none = (a.bytes.items, subst (So a.bytes.items) is so, given)
gives So (Err e) old new count s so wants none (given, is) = (memory_line, subst (So memory_line) (sym is) wants, given)

-- a property that always holds also holds without an answer
pub anyway : {A E : Type 0} (P : Type 0) (r : Result A E) → P → OnErr r P
anyway P (Ok a) p = tt
anyway P (Err e) p = p

-- if one property of an answer implies another, an answer with the first has the second
pub so_that : {E : Type 0} (P Q : List ℕ → Status → Type 0) (r : Result Answer E) → ((lines : List ℕ) (s : Status) → P lines s → Q lines s) → IfOk r (λ a. P a.bytes.items a.status) → IfOk r (λ a. Q a.bytes.items a.status)
so_that P Q (Ok a) f p = f a.bytes.items a.status p
so_that P Q (Err e) f p = tt
