-- Laws on the grammar, over the definitions alone.
use Rattle.std.specs.Prelude.{◌≡◌, ◌↔◌, ℕ, ◌≤◌, List, length, take}
use Rattle.in_syntax.specs.declared.signs.Sign.{Sign}
use Rattle.in_syntax.specs.Grammar.{GrammarProgram, spelling, source_of}
use Rattle.in_syntax.specs.Programs.{signs, BeginsWithin, Outcome, tree, fault, IsOutcomeOfSigns}
use Rattle.in_syntax.specs.declared.text_limits.TextLimits.{TextLimits}

-- every list of signs has exactly one outcome: one tree, or one first fault
abbrev pub OneOutcome : Type 0
OneOutcome = (limits : TextLimits) (s : List Sign) → (o : Outcome) × IsOutcomeOfSigns limits s o × ((p : Outcome) → IsOutcomeOfSigns limits s p → p ≡ o)

-- two programs with the same signs have one tree, and pass the limits at the same signs
abbrev pub OneTree : Type 0
OneTree = (limits : TextLimits) (p q : GrammarProgram) → signs (spelling limits p) ≡ signs (spelling limits q) → (source_of limits p ≡ source_of limits q) × (spelling limits p ≡ spelling limits q)

-- how many signs come before the first fault: all of them if there is none
abbrev pub before_fault : List Sign → Outcome → ℕ
before_fault s (tree source) = length s
before_fault s (fault code i) = i

-- a program begins, within the limits, with just those prefixes of the signs that end before the first fault
abbrev pub PrefixesBegin : Type 0
PrefixesBegin = (limits : TextLimits) (s : List Sign) (o : Outcome) → IsOutcomeOfSigns limits s o → (n : ℕ) → n ≤ length s → BeginsWithin limits (take n s) ↔ (n ≤ before_fault s o)
