-- The texts that have a diagnosis.
use Rattle.std.specs.Prelude.{Bool, true, false, List, ℕ, Ok, Err, Option, Some, None}
use Rattle.in_syntax.specs.declared.faults.Refusal.{Refusal}
use Rattle.in_syntax.specs.declared.text_limits.TextLimits.{TextLimits}
use Rattle.in_syntax.specs.declared.faults.Fault.TheVariants.{Refused}
use Rattle.in_syntax.specs.declared.tree.Source.{Source}
use Rattle.in_check.specs.Checking.{ChecksNames, IsCertified, IsRefused}
use Rattle.in_check.specs.Programs.{Certified}

-- a refused text has a diagnosis, and an accepted text has none
abbrev pub IsToldOfText : TextLimits → List ℕ → Bool → Type 0
IsToldOfText limits text true = (r : Refusal) × IsRefused limits text r
IsToldOfText limits text false = (c : Certified) × IsCertified limits text c

-- a text has this refusal, or is accepted
abbrev pub Refuses : TextLimits → List ℕ → Option Refusal → Type 0
Refuses limits text (Some r) = IsRefused limits text r
Refuses limits text None = (c : Certified) × IsCertified limits text c

-- .. and so for a text's tree
abbrev pub RefusesTree : Source → Option Refusal → Type 0
RefusesTree s (Some r) = ChecksNames s (Err (Refused r))
RefusesTree s None = (c : Certified) × ChecksNames s (Ok c)
