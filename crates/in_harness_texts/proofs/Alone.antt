-- The result of `check` is the only one.
use Rattle.std.proofs.Common.{ℕ, List, Result, Ok, Err}
use Rattle.in_syntax.specs.declared.faults.Fault.{Fault}
use Rattle.in_syntax.specs.declared.faults.Fault.TheVariants.{Refused, Memory}
use Rattle.in_check.specs.Checking.{IsChecked}
use Rattle.in_check.specs.Laws.{TextsAreCheckedOnce}
use Rattle.in_check.specs.Programs.{Certified}
use Rattle.in_harness_texts.specs.Only.{IsOnlyAnswer}
use Rattle.in_syntax.specs.declared.text_limits.TextLimits.TheVariants.{Usual}

pub answered_alone : TextsAreCheckedOnce → (text : List ℕ) (a : Result Certified Fault) → IsChecked Usual text a → IsOnlyAnswer text a
answered_alone once text (Ok p) h = (h, (λ q k. once Usual text (Ok p) (Ok q) h k), λ r k. once Usual text (Ok p) (Err (Refused r)) h k)
answered_alone once text (Err (Refused r)) h = (h, (λ s k. once Usual text (Err (Refused r)) (Err (Refused s)) h k), λ p k. once Usual text (Err (Refused r)) (Ok p) h k)
answered_alone once text (Err (Memory e)) h = tt
