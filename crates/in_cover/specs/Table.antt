-- The table of rules: a cell for each two symbols.
use Rattle.std.specs.Prelude.{ℕ, ◌+◌, ◌*◌, nat_lt, ◌&&◌, if◌then◌else◌, List, Option, None, slice_index_or}
use Rattle.in_cover.specs.declared.table.RuleNo.{RuleNo}

-- for `size` symbols, the cells symbol by symbol, each with a cell for each symbol in turn
pub record Cells : Type 0 where
  pub size : ℕ
  pub cells : List (Option RuleNo)

-- the number of the rule for two symbols
abbrev pub rule_at : Cells → ℕ → ℕ → Option RuleNo
rule_at t c d = if nat_lt c t.size && nat_lt d t.size then slice_index_or t.cells (c * t.size + d) None else None
