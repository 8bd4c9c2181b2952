use Rattle.std.proofs.Common.{◌≡◌, ◌⊎◌, inl, inr, ◌<◌, ◌+◌, ℕ, zero, suc, List, length, slice_get, get_or, Some, Ok, refl, sym, ◌∙◌, ap, subst, arith}
use Rattle.std.proofs.lemmas.Option.{slice_get-get_or}
use Rattle.in_symbols.specs.Tables.{Tables}
use Rattle.in_net.specs.Rules.{RuleParts}
use Rattle.in_typing.specs.Typed.{TypesRule}
use Rattle.in_check.proofs.Passes.{rules_typed}
use Rattle.in_check.proofs.checking.type_rules.Goals as goal

same : (p q : RuleParts) → Some p ≡ Some q → p ≡ q
same p q e = cc

order : (i k : ℕ) → i < k + 1 → (i ≡ k) ⊎ (i < k)
order zero zero lt = inl refl
order zero (suc k) lt = inr (omega arith)
order (suc i) zero lt = absurd (omega (arith, lt))
order (suc i) (suc k) lt = elim (order i k (omega (arith, lt))) [ inl e ↦ inl (ap suc e) | inr e ↦ inr (omega (arith, e)) ]

next : (t : Tables) (rules : List RuleParts) (k : ℕ) (rule : RuleParts) → k < length rules → rule ≡ get_or rules k rule → TypesRule t rule (Ok tt) → ((i : ℕ) (p : RuleParts) → i < k → slice_get rules i ≡ Some p → TypesRule t p (Ok tt)) →
    (i : ℕ) (p : RuleParts) → i < k + 1 → slice_get rules i ≡ Some p → TypesRule t p (Ok tt)
next t rules k rule lt is typed before i p less at = by_side (order i k less)
  where
    by_side : (i ≡ k) ⊎ (i < k) → TypesRule t p (Ok tt)
    by_side (inl e) = subst (λ p. TypesRule t p (Ok tt)) (same rule p (ap Some is ∙ sym (slice_get-get_or rules k rule lt) ∙ ap (slice_get rules) (sym e) ∙ at)) typed
    by_side (inr e) = before i p e at

pub loop-rule-preserved : goal.loop-rule-preserved
loop-rule-preserved c =
    next c.args.symbols.now c.args.rules.now c.loop-rule.rule-index c.rule-item.result c.loop-rule-test.true c.rule-item.is c.in_ok-type_rule.ensures c.loop-rule.invariant

pub returns : goal.returns
returns c = rules_typed c.args.symbols.now c.args.rules.now (λ i p lt e. c.loop-rule.invariant i p (omega (arith, lt, c.loop-rule-test.false)) e)
