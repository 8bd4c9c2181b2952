use Rattle.std.proofs.Common.{◌≡◌, ◌<◌, ℕ, Some, length, slice_get}
use Rattle.in_syntax.specs.declared.symbol_no.SymbolNo.{SymbolNo}
use Rattle.in_reducer.specs.Taking.{together}
use Rattle.in_reducer.specs.Templates.{HasHeadsAt}
use Rattle.in_reducer.proofs.reducer.Reducer.read_heads.Given as goal

abbrev pub invariant-loop-number : goal.invariant-loop-number
invariant-loop-number l = record {
  read : (k : ℕ) (h : SymbolNo × SymbolNo) → k < l.number → slice_get l.heads k ≡ Some h → HasHeadsAt l.self k h;
  many : length l.heads ≡ together;
}
