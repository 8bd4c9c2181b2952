-- One rule for each pair. Lafont 1990: there is one rule for each constructor and destructor of one type, and at most one rule for
-- two symbols, in either order. The codes, the places and the choice of the first fault are this project's own.
use Rattle.std.specs.Prelude.{◌≡◌, ◌⊎◌, ◌↔◌, ℕ, ◌<◌, ◌≤◌, true, List, Some, IsSome, Result, Ok, Err, slice_get}
use Rattle.in_syntax.specs.Refusals.{refusal_of}
use Rattle.in_syntax.specs.declared.faults.Code.TheVariants.{E14, E15}
use Rattle.in_syntax.specs.declared.faults.Fault.{Fault}
use Rattle.in_syntax.specs.declared.faults.Fault.TheVariants.{Refused, Memory}
use Rattle.in_syntax.specs.declared.faults.Refusal.{Refusal}
use Rattle.in_symbols.specs.Tables.{Tables, IsSymbol, matching, place_of}
use Rattle.in_net.specs.Rules.{RuleParts, place_of_head}
use Rattle.in_cover.specs.declared.table.RuleNo.{RuleNo}
use Rattle.in_cover.specs.Table.{Cells, rule_at}

-- the two symbols are declared, and match
pub record IsPair (t : Tables) (c d : ℕ) : Type 0 where
  pub first : IsSymbol t c
  pub second : IsSymbol t d
  pub matched : matching t c d ≡ true

-- the rule's symbols are a pair
abbrev pub IsRuleOfPair : Tables → RuleParts → Type 0
IsRuleOfPair t r = IsPair t r.heads.0.0 r.heads.1.0

-- the rule's symbols are these two, in either order
abbrev pub IsRuleOfSymbols : RuleParts → ℕ → ℕ → Type 0
IsRuleOfSymbols r c d = ((r.heads.0.0 ≡ c) × (r.heads.1.0 ≡ d)) ⊎ ((r.heads.0.0 ≡ d) × (r.heads.1.0 ≡ c))

-- the rule of that number is for these two symbols
pub record IsRuleFor (rules : List RuleParts) (k c d : ℕ) : Type 0 where
  pub rule : RuleParts
  pub stands : slice_get rules k ≡ Some rule
  pub symbols : IsRuleOfSymbols rule c d

-- each pair has exactly one rule, and no two other symbols have one
pub record IsComplete (t : Tables) (rules : List RuleParts) : Type 0 where
  pub at_least_one : (c d : ℕ) → IsPair t c d → (k : ℕ) × IsRuleFor rules k c d
  pub at_most_one : (c d j k : ℕ) → IsRuleFor rules j c d → IsRuleFor rules k c d → j ≡ k
  pub pairs_alone : (c d k : ℕ) → IsRuleFor rules k c d → IsPair t c d

-- the table has a number for two symbols exactly when the rule of that number is for them
abbrev pub Numbers : Cells → List RuleParts → Type 0
Numbers table rules = (c d : ℕ) (k : RuleNo) → (rule_at table c d ≡ Some k) ↔ IsRuleFor rules k.0 c d

-- .. and it has one for each pair
pub record IsTableOf (t : Tables) (rules : List RuleParts) (table : Cells) : Type 0 where
  pub numbers : Numbers table rules
  pub pairs : (c d : ℕ) → IsPair t c d → IsSome (rule_at table c d)

-- ---- a second rule

-- the rule of that number is for two symbols that have an earlier rule
pub record IsSecond (rules : List RuleParts) (k : ℕ) : Type 0 where
  pub c : ℕ
  pub d : ℕ
  pub before : ℕ
  pub is_before : before < k
  pub one : IsRuleFor rules before c d
  pub other : IsRuleFor rules k c d

abbrev pub HasNoSecond : List RuleParts → Type 0
HasNoSecond rules = (k : ℕ) → IsSecond rules k → ⊥

-- the refusal of a second rule, at the name of its first head
abbrev pub second_at : RuleParts → Refusal
second_at r = refusal_of E14 (place_of_head r 0)

-- the first rule that is a second one
pub record IsFirstSecond (rules : List RuleParts) (refusal : Refusal) : Type 0 where
  pub number : ℕ
  pub rule : RuleParts
  pub stands : slice_get rules number ≡ Some rule
  pub second : IsSecond rules number
  pub first : (k : ℕ) → k < number → IsSecond rules k → ⊥
  pub refused : refusal ≡ second_at rule

-- ---- a pair without a rule

-- the two are a pair without a rule, and the second of them is declared before the first
pub record IsMissing (t : Tables) (rules : List RuleParts) (later earlier : ℕ) : Type 0 where
  pub pair : IsPair t later earlier
  pub declared : earlier < later
  pub unruled : (k : ℕ) → IsRuleFor rules k later earlier → ⊥

-- the refusal is at the later declared name, with the place of the other
pub record IsMissingAt (t : Tables) (later earlier : ℕ) (refusal : Refusal) : Type 0 where
  pub code : refusal.code ≡ E15
  pub place : Some refusal.place ≡ place_of t later
  pub other : refusal.other ≡ place_of t earlier

-- the refusal is for the pair whose later name is declared first, and among these for the pair whose earlier name is
pub record IsFirstMissing (t : Tables) (rules : List RuleParts) (refusal : Refusal) : Type 0 where
  pub later : ℕ
  pub earlier : ℕ
  pub missing : IsMissing t rules later earlier
  pub first : (c d : ℕ) → IsMissing t rules c d → (later < c) ⊎ ((later ≡ c) × (earlier ≤ d))
  pub refused : IsMissingAt t later earlier refusal

-- ---- results

-- a relation between tables, rules and the result of covering them
abbrev pub RulesAnswer : Type 1
RulesAnswer = Tables → List RuleParts → Result Cells Fault → Type 0

-- Ok exactly when the rules are complete, with their table; otherwise the refusal of the first second rule, or, if there is none, of the first
-- pair without a rule
abbrev pub Covers : RulesAnswer
Covers t rules (Ok table) = IsComplete t rules × IsTableOf t rules table
Covers t rules (Err (Refused r)) = IsFirstSecond rules r ⊎ (HasNoSecond rules × IsFirstMissing t rules r)
Covers t rules (Err (Memory e)) = Unit {0}
