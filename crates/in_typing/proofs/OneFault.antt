-- Typing has one result.
use Rattle.std.proofs.Common.{◌≡◌, ◌⊎◌, inl, inr, ◌<◌, Ok, Err, refl, sym, ◌∙◌, ap}
use Rattle.std.proofs.lemmas.Bool.{cases_order}
use Rattle.std.proofs.lemmas.Option.{same_Some}
use Rattle.in_syntax.specs.declared.faults.Refusal.{Refusal}
use Rattle.in_syntax.proofs.Public.{same_refusal}
use Rattle.in_symbols.specs.Tables.{Tables}
use Rattle.in_net.specs.Parts.{Parts, wire_place_in}
use Rattle.in_net.specs.Rules.{RuleParts}
use Rattle.in_typing.specs.Laws.{NetsAreTypedOnce, RulesAreTypedOnce}
use Rattle.in_typing.specs.Typed.{TypesRule, IsMistyped, IsRuleMistyped, of_heads, of_wire}

pub one_mistyped : (t : Tables) (n : Parts) (q r : Refusal) → IsMistyped t n q → IsMistyped t n r → q ≡ r
one_mistyped t n q r h k = by_order (cases_order h.wire k.wire)
  where
    by_order : (h.wire ≡ k.wire) ⊎ ((h.wire < k.wire) ⊎ (k.wire < h.wire)) → q ≡ r
    by_order (inl e) = same_refusal q r (h.code ∙ sym k.code) (same_Some q.place r.place (sym h.place ∙ ap (wire_place_in n) e ∙ k.place)) (h.other ∙ sym k.other)
    by_order (inr (inl lt)) = absurd (h.mistyped (k.first h.wire lt))
    by_order (inr (inr lt)) = absurd (k.mistyped (h.first k.wire lt))

pub one_rule_mistyped : (t : Tables) (p : RuleParts) (q r : Refusal) → IsRuleMistyped t p q → IsRuleMistyped t p r → q ≡ r
one_rule_mistyped t p q r (of_heads apart a) (of_heads none c) = a ∙ sym c
one_rule_mistyped t p q r (of_heads apart a) (of_wire fit c) = absurd (apart fit)
one_rule_mistyped t p q r (of_wire fit a) (of_heads apart c) = absurd (apart fit)
one_rule_mistyped t p q r (of_wire fit a) (of_wire fits c) = one_mistyped t p.member q r a c

pub rule_not_both : (t : Tables) (p : RuleParts) (r : Refusal) → TypesRule t p (Ok tt) → IsRuleMistyped t p r → ⊥
rule_not_both t p r h (of_heads apart a) = apart h.0
rule_not_both t p r h (of_wire fit a) = a.mistyped (h.1 a.wire)

pub typed_once : NetsAreTypedOnce
typed_once t n (Ok u) (Ok v) h k = refl
typed_once t n (Ok u) (Err r) h k = absurd (k.mistyped (h k.wire))
typed_once t n (Err q) (Ok v) h k = absurd (h.mistyped (k h.wire))
typed_once t n (Err q) (Err r) h k = ap Err (one_mistyped t n q r h k)

pub rule_typed_once : RulesAreTypedOnce
rule_typed_once t p (Ok u) (Ok v) h k = refl
rule_typed_once t p (Ok u) (Err r) h k = absurd (rule_not_both t p r h k)
rule_typed_once t p (Err q) (Ok v) h k = absurd (rule_not_both t p q k h)
rule_typed_once t p (Err q) (Err r) h k = ap Err (one_rule_mistyped t p q r h k)
