use Rattle.std.proofs.Common.{◌≡◌, ℕ, ◌<◌, length}
use Rattle.in_cover.specs.Cover.{IsSecond}
use Rattle.in_cover.specs.Covering.{HoldsBelow}
use Rattle.in_cover.proofs.covering.numbers.Given as goal

abbrev pub invariant-loop-number : goal.invariant-loop-number
invariant-loop-number l = record {
  size : l.table.size ≡ length l.symbols.names;
  holds : HoldsBelow l.rules l.number l.table;
  once : (k : ℕ) → k < l.number → IsSecond l.rules k → ⊥;
}
