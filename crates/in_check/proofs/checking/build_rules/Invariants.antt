use Rattle.std.proofs.Common.{◌≡◌, ℕ, length, slice_get, Some, Ok}
use Rattle.in_net.specs.Rules.{RuleParts, BuildsRule}
use Rattle.in_check.proofs.checking.build_rules.Given as goal

abbrev pub invariant-loop-index : goal.invariant-loop-index
invariant-loop-index l = record {
  count : length l.rules ≡ l.index;
  each : (i : ℕ) (p : RuleParts) → slice_get l.rules i ≡ Some p → BuildsRule l.source l.symbols i (Ok p);
}
