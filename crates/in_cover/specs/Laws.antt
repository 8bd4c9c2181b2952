-- Laws on the definition of the result of `cover`.
use Rattle.std.specs.Prelude.{◌≡◌, ℕ, List, Err}
use Rattle.in_syntax.specs.declared.faults.Fault.TheVariants.{Refused}
use Rattle.in_syntax.specs.declared.faults.Refusal.{Refusal}
use Rattle.in_syntax.specs.Answers.{IsOneBy}
use Rattle.in_symbols.specs.Tables.{Tables}
use Rattle.in_net.specs.Rules.{RuleParts}
use Rattle.in_cover.specs.Cover.{IsComplete, Covers}
use Rattle.in_cover.specs.Table.{Cells, rule_at}

-- rules that are refused aren't complete
abbrev pub RefusedRulesAreIncomplete : Type 0
RefusedRulesAreIncomplete = (t : Tables) (rules : List RuleParts) (r : Refusal) → Covers t rules (Err (Refused r)) → IsComplete t rules → ⊥

-- they have one refusal
abbrev pub OneRefusal : Type 0
OneRefusal = (t : Tables) (rules : List RuleParts) (r s : Refusal) → Covers t rules (Err (Refused r)) → Covers t rules (Err (Refused s)) → r ≡ s

-- the same rule for each two symbols, which is all that is looked up in a table
abbrev pub AreOneTable : Cells → Cells → Type 0
AreOneTable a b = (c d : ℕ) → rule_at a c d ≡ rule_at b c d

-- all results that covering may have for the rules agree
abbrev pub RulesAreCoveredOnce : Type 0
RulesAreCoveredOnce = (t : Tables) (rules : List RuleParts) → IsOneBy AreOneTable (Covers t rules)
