use Rattle.std.proofs.Common.{◌≡◌, ◌<◌, ℕ, slice_get, Some, Ok}
use Rattle.in_net.specs.Rules.{RuleParts}
use Rattle.in_typing.specs.Typed.{TypesRule}
use Rattle.in_check.proofs.checking.type_rules.Given as goal

abbrev pub invariant-loop-rule : goal.invariant-loop-rule
invariant-loop-rule l = (i : ℕ) (p : RuleParts) → i < l.rule-index → slice_get l.rules i ≡ Some p → TypesRule l.symbols p (Ok tt)
