-- The results of the parts of the search for a complete table.
use Rattle.std.specs.Prelude.{◌≡◌, ◌↔◌, ℕ, ◌<◌, Bool, true, false, List, length, Option, Some, None, IsSome, Ok, Err}
use Rattle.in_syntax.specs.declared.faults.Fault.TheVariants.{Refused, Memory}
use Rattle.in_syntax.specs.declared.symbol_no.SymbolNo.{SymbolNo}
use Rattle.in_symbols.specs.Tables.{Tables, matching}
use Rattle.in_net.specs.Rules.{RuleParts}
use Rattle.in_cover.specs.declared.table.RuleNo.{RuleNo}
use Rattle.in_cover.specs.Cover.{RulesAnswer, IsRuleFor, HasNoSecond, IsFirstSecond}
use Rattle.in_cover.specs.Table.{Cells, rule_at}

pub record HasNoRule (size : ℕ) (t : Cells) : Type 0 where
  pub size_is : t.size ≡ size
  pub nothing : (c d : ℕ) → rule_at t c d ≡ None

-- the table has this number in the cell of these two symbols, and is otherwise as it was
pub record Sets (old : Cells) (c d : ℕ) (k : RuleNo) (new : Cells) : Type 0 where
  pub size : new.size ≡ old.size
  pub here : rule_at new c d ≡ Some k
  pub elsewhere : (x y : ℕ) → ((x ≡ c) × (y ≡ d) → ⊥) → rule_at new x y ≡ rule_at old x y

-- .. in the cells of both orders
pub record SetsBoth (old : Cells) (c d : ℕ) (k : RuleNo) (new : Cells) : Type 0 where
  pub size : new.size ≡ old.size
  pub here : rule_at new c d ≡ Some k
  pub turned : rule_at new d c ≡ Some k
  pub elsewhere : (x y : ℕ) → ((x ≡ c) × (y ≡ d) → ⊥) → ((x ≡ d) × (y ≡ c) → ⊥) → rule_at new x y ≡ rule_at old x y

abbrev pub AddsRule : Cells → RuleNo → ℕ → ℕ → Cells → Bool → Type 0
AddsRule old k c d new true = (rule_at old c d ≡ None) × SetsBoth old c d k new
AddsRule old k c d new false = IsSome (rule_at old c d) × (new ≡ old)

-- the first n rules are in the table, and no others
abbrev pub HoldsBelow : List RuleParts → ℕ → Cells → Type 0
HoldsBelow rules n table = (c d : ℕ) (k : RuleNo) → (rule_at table c d ≡ Some k) ↔ ((k.0 < n) × IsRuleFor rules k.0 c d)

abbrev pub NumbersRules : RulesAnswer
NumbersRules t rules (Ok table) = (table.size ≡ length t.names) × HoldsBelow rules (length rules) table × HasNoSecond rules
NumbersRules t rules (Err (Refused r)) = IsFirstSecond rules r
NumbersRules t rules (Err (Memory e)) = Unit {0}

-- the two symbols match, and the table has no rule for them
abbrev pub IsGap : Tables → Cells → ℕ → ℕ → Type 0
IsGap t table c d = (matching t c d ≡ true) × (rule_at table c d ≡ None)

-- the later symbol has no gap with the first n symbols
abbrev pub HasNoGapBelow : Tables → Cells → ℕ → ℕ → Type 0
HasNoGapBelow t table later n = (d : ℕ) → d < n → IsGap t table later d → ⊥

abbrev pub FindsGapBelow : Tables → Cells → ℕ → Option SymbolNo → Type 0
FindsGapBelow t table later None = HasNoGapBelow t table later later
FindsGapBelow t table later (Some d) = (d.0 < later) × IsGap t table later d.0 × HasNoGapBelow t table later d.0

abbrev pub HasNoGapIn : Tables → Cells → ℕ → Type 0
HasNoGapIn t table n = (c : ℕ) → c < n → HasNoGapBelow t table c c

abbrev pub FindsGap : Tables → Cells → Option (SymbolNo × SymbolNo) → Type 0
FindsGap t table None = HasNoGapIn t table (length t.names)
FindsGap t table (Some p) = (p.0.0 < length t.names) × HasNoGapIn t table p.0.0 × FindsGapBelow t table p.0.0 (Some p.1)
