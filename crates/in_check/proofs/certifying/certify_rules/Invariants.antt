use Rattle.std.proofs.Common.{◌≡◌, ℕ, length, slice_get, Some, Ok}
use Rattle.in_net.specs.Rules.{RuleParts}
use Rattle.in_check.specs.declared.checked.Certificate.{Certificate}
use Rattle.in_check.specs.Certificates.{CertifiesRule}
use Rattle.in_check.proofs.certifying.certify_rules.Given as goal

abbrev pub invariant-loop-rule : goal.invariant-loop-rule
invariant-loop-rule l = record {
  count : length l.certificates ≡ l.rule-index;
  each : (i : ℕ) (p : RuleParts) (c : Certificate) → slice_get l.rules i ≡ Some p → slice_get l.certificates i ≡ Some c → CertifiesRule l.symbols p (Ok c);
}
