-- The results of the passes over the steps of rules.
use Rattle.std.proofs.Common.{◌≡◌, ◌⊎◌, inl, inr, List, [], ◌∷◌, ◌++◌, length, ℕ, Some, slice_get, Result, Ok, Err, sym, ◌∙◌, ap, subst, arith}
use Rattle.std.specs.List.{AllByRecursion}
use Rattle.in_syntax.specs.declared.faults.Code.{Code}
use Rattle.in_syntax.specs.declared.faults.Fault.{Fault}
use Rattle.in_syntax.specs.declared.faults.Fault.TheVariants.{Refused, Memory}
use Rattle.in_syntax.specs.declared.tree.Source.{Source}
use Rattle.in_symbols.specs.Tables.{Tables}
use Rattle.in_net.specs.Rules.{RuleParts}
use Rattle.in_open_nets.specs.OpenNets.{OpenNet}
use Rattle.in_open_nets_of_programs.specs.OpeningRules.{IsRuleWhole}
use Rattle.in_open_nets_of_programs.proofs.Public.{rule_whole}
use Rattle.in_check.specs.declared.checked.Certificate.{Certificate}
use Rattle.in_check.specs.Certificates.{Certifies, CertifiesRule, CertifiesRules, CertifiesSome}
use Rattle.in_check.specs.Checking.{BuildsRules}
use Rattle.in_base.proofs.Places.{more_at}
use Rattle.in_check.proofs.Passes.{all_of}
use Rattle.in_base.proofs.Each.{at_index}

-- ---- rule by rule

pub rules_whole : (s : Source) (t : Tables) (rules : List RuleParts) → BuildsRules s t (Ok rules) → AllByRecursion (IsRuleWhole t) rules
rules_whole s t rules h = all_of (IsRuleWhole t) rules (λ i p e. let b = h.each i p e in rule_whole s.limits t b.0 p b.2)

-- the first rule that is refused
pub at_stuck_rule : (t : Tables) (rules : List RuleParts) (cs : List Certificate) (i : ℕ) (p : RuleParts) (e : Fault) → slice_get rules i ≡ Some p → length cs ≡ i →
    ((j : ℕ) (q : RuleParts) (c : Certificate) → slice_get rules j ≡ Some q → slice_get cs j ≡ Some c → CertifiesRule t q (Ok c)) → CertifiesRule t p (Err e) → CertifiesRules t rules (Err e)
at_stuck_rule t rules cs i p (Memory e) at count each refuses = tt
at_stuck_rule t rules cs i p (Refused r) at count each refuses = record {
  number = i;
  rule = p;
  stands = at;
  refused = refuses;
  first = λ j q less e. let c = at_index cs j (omega (arith, less, count)) in (c.0, each j q c.0 e c.1);
}

pub same_rule : (p q : RuleParts) → Some p ≡ Some q → p ≡ q
same_rule p q e = cc

-- one more rule is certified
pub one_more_certified : (t : Tables) (rules : List RuleParts) (cs more : List Certificate) (p : RuleParts) (c : Certificate) → more ≡ cs ++ c ∷ [] → slice_get rules (length cs) ≡ Some p →
    ((j : ℕ) (q : RuleParts) (d : Certificate) → slice_get rules j ≡ Some q → slice_get cs j ≡ Some d → CertifiesRule t q (Ok d)) → CertifiesRule t p (Ok c) →
    (j : ℕ) (q : RuleParts) (d : Certificate) → slice_get rules j ≡ Some q → slice_get more j ≡ Some d → CertifiesRule t q (Ok d)
one_more_certified t rules cs more p c grown at each made j q d e f = by_side (more_at cs c d j (ap (λ z. slice_get z j) (sym grown) ∙ f))
  where
    by_side : (slice_get cs j ≡ Some d) ⊎ ((j ≡ length cs) × (c ≡ d)) → CertifiesRule t q (Ok d)
    by_side (inl h) = each j q d e h
    by_side (inr h) = subst (λ z. CertifiesRule t q (Ok z)) h.1 (subst (λ z. CertifiesRule t z (Ok c)) (same_rule p q (sym at ∙ ap (slice_get rules) (sym h.0) ∙ e)) made)

-- ---- a rule, and the net

pub certified : (P : OpenNet → Type 0) (code : Code) (o : OpenNet) (r : Result Certificate Fault) → P o → Certifies o code r → CertifiesSome P code r
certified P code o (Ok c) opens h = (subst P (sym h.0) opens, h.1)
certified P code o (Err (Refused r)) opens h = (o, opens, h)
certified P code o (Err (Memory e)) opens h = tt
