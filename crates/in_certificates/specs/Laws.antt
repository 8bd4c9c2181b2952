-- A law on the result of verifying given steps.
use Rattle.std.specs.Prelude.{ℕ, List}
use Rattle.in_syntax.specs.Answers.{IsOne}
use Rattle.in_syntax.specs.declared.text_limits.TextLimits.{TextLimits}
use Rattle.in_certificates.specs.declared.given.GivenStep.{GivenStep}
use Rattle.in_certificates.specs.Verifying.{Verifies}

-- all results that verifying may have for one text with its limits, item and steps agree
abbrev pub StepsAreJudgedOnce : Type 0
StepsAreJudgedOnce = (limits : TextLimits) (text : List ℕ) (k : ℕ) (given : List GivenStep) (parts : List ℕ) → IsOne (Verifies limits text k given parts)
