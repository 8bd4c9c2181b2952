-- The result of a check of a text with other braces.
use Rattle.std.specs.Prelude.{◌≡◌, ℕ, Bool, true, false, List}
use Rattle.in_syntax.specs.declared.faults.Code.{Code}
use Rattle.in_syntax.specs.declared.faults.Code.TheVariants.{E12, E13}
use Rattle.in_syntax.specs.declared.faults.Refusal.{Refusal}
use Rattle.in_syntax.specs.declared.text_limits.TextLimits.{TextLimits}
use Rattle.in_check.specs.Checking.{IsCertified, IsRefused}
use Rattle.in_check.specs.Programs.{Certified}
use Rattle.in_diagnosis.specs.declared.remedies.Verdict.{Verdict}
use Rattle.in_diagnosis.specs.declared.remedies.Verdict.TheVariants.{Accepted, Stuck, Refused}

-- the code of a rule or a net that no steps build
abbrev pub is_stuck : Code → Bool
is_stuck E12 = true
is_stuck E13 = true
is_stuck c = false

-- accepted, or refused at this byte for a rule or a net that no steps build, or refused otherwise
abbrev pub IsAnsweredWith : TextLimits → List ℕ → Verdict → Type 0
IsAnsweredWith limits text Accepted = (c : Certified) × IsCertified limits text c
IsAnsweredWith limits text (Stuck at) = (r : Refusal) × IsRefused limits text r × (is_stuck r.code ≡ true) × (r.place.from ≡ at)
IsAnsweredWith limits text Refused = (r : Refusal) × IsRefused limits text r × (is_stuck r.code ≡ false)
