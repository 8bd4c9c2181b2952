-- Results for a text, if the definitions allow no other.
use Rattle.std.specs.Prelude.{◌≡◌, ⊤, ℕ, List, Result, Ok, Err}
use Rattle.in_syntax.specs.declared.faults.Fault.{Fault}
use Rattle.in_syntax.specs.declared.faults.Fault.TheVariants.{Refused, Memory}
use Rattle.in_syntax.specs.declared.faults.Refusal.{Refusal}
use Rattle.in_check.specs.Checking.{IsCertified, IsRefused}
use Rattle.in_check.specs.Laws.{AreOneCertified}
use Rattle.in_check.specs.Programs.{Certified}
use Rattle.in_syntax.specs.declared.text_limits.TextLimits.TheVariants.{Usual}

-- by the usual limits this is the text's only refusal, and no program of it is accepted
abbrev pub IsOnlyRefusal : List ℕ → Refusal → Type 0
IsOnlyRefusal text r = IsRefused Usual text r × ((s : Refusal) → IsRefused Usual text s → r ≡ s) × ((c : Certified) → IsCertified Usual text c → ⊥)

-- by the usual limits this is the only accepted program of the text, and the text isn't refused
abbrev pub IsOnlyProgram : List ℕ → Certified → Type 0
IsOnlyProgram text c = IsCertified Usual text c × ((d : Certified) → IsCertified Usual text d → AreOneCertified c d) × ((r : Refusal) → IsRefused Usual text r → ⊥)

-- the result is the only one; when out of memory it may be any
abbrev pub IsOnlyAnswer : List ℕ → Result Certified Fault → Type 0
IsOnlyAnswer text (Ok p) = IsOnlyProgram text p
IsOnlyAnswer text (Err (Refused r)) = IsOnlyRefusal text r
IsOnlyAnswer text (Err (Memory e)) = ⊤
