-- The table holds the first rules, a given number of them.
use Rattle.std.proofs.Common.{◌≡◌, ◌⊎◌, ℕ, ◌+◌, ◌<◌, ◌≤◌, List, length, Option, Some, None, IsSome, slice_get, refl, sym, ◌∙◌, ap, subst, inl, inr, arith}
use Rattle.std.proofs.lemmas.Bool.{cases_lt, cases_eq}
use Rattle.std.proofs.lemmas.Option.{none-some, same_Some, slice_get_within}
use Rattle.in_net.specs.Rules.{RuleParts}
use Rattle.in_cover.specs.declared.table.RuleNo.{RuleNo}
use Rattle.in_cover.specs.Cover.{IsRuleOfSymbols, IsRuleFor, IsSecond, HasNoSecond}
use Rattle.in_cover.specs.Covering.{HasNoRule, SetsBoth, HoldsBelow}
use Rattle.in_cover.specs.Table.{Cells, rule_at}

-- ---- two symbols in either order

pub turn : (r : RuleParts) (c d : ℕ) → IsRuleOfSymbols r c d → IsRuleOfSymbols r d c
turn r c d (inl h) = inr h
turn r c d (inr h) = inl h

pub turn_rule : (rules : List RuleParts) (k c d : ℕ) → IsRuleFor rules k c d → IsRuleFor rules k d c
turn_rule rules k c d h = record { rule = h.rule; stands = h.stands; symbols = turn h.rule c d h.symbols }

-- two rules for the same symbols have the same symbols
pub same_symbols : (r q : RuleParts) (x y : ℕ) → IsRuleOfSymbols r x y → IsRuleOfSymbols q x y → IsRuleOfSymbols q r.heads.0.0 r.heads.1.0
same_symbols r q x y (inl h) (inl k) = inl (k.0 ∙ sym h.0, k.1 ∙ sym h.1)
same_symbols r q x y (inl h) (inr k) = inr (k.0 ∙ sym h.1, k.1 ∙ sym h.0)
same_symbols r q x y (inr h) (inl k) = inr (k.0 ∙ sym h.1, k.1 ∙ sym h.0)
same_symbols r q x y (inr h) (inr k) = inl (k.0 ∙ sym h.0, k.1 ∙ sym h.1)

-- the rule's symbols are these two or not
is_for_by : (r : RuleParts) (x y : ℕ) → (r.heads.0.0 ≡ x) ⊎ (r.heads.0.0 ≡ x → ⊥) → (r.heads.1.0 ≡ y) ⊎ (r.heads.1.0 ≡ y → ⊥) → ((r.heads.0.0 ≡ x) × (r.heads.1.0 ≡ y)) ⊎ ((r.heads.0.0 ≡ x) × (r.heads.1.0 ≡ y) → ⊥)
is_for_by r x y (inl e) (inl f) = inl (e, f)
is_for_by r x y (inl e) (inr f) = inr (λ both. f both.1)
is_for_by r x y (inr e) f = inr (λ both. e both.0)

written_as : (r : RuleParts) (x y : ℕ) → ((r.heads.0.0 ≡ x) × (r.heads.1.0 ≡ y)) ⊎ ((r.heads.0.0 ≡ x) × (r.heads.1.0 ≡ y) → ⊥)
written_as r x y = is_for_by r x y (cases_eq r.heads.0.0 x) (cases_eq r.heads.1.0 y)

-- ---- one more rule

-- the table's rule for two symbols, when the rule's number is written at its symbols in both orders
read_by : (r : RuleParts) (old new : Cells) (k : RuleNo) → SetsBoth old r.heads.0.0 r.heads.1.0 k new → (x y : ℕ) →
    ((r.heads.0.0 ≡ x) × (r.heads.1.0 ≡ y)) ⊎ ((r.heads.0.0 ≡ x) × (r.heads.1.0 ≡ y) → ⊥) → ((r.heads.0.0 ≡ y) × (r.heads.1.0 ≡ x)) ⊎ ((r.heads.0.0 ≡ y) × (r.heads.1.0 ≡ x) → ⊥) →
    (IsRuleOfSymbols r x y × (rule_at new x y ≡ Some k)) ⊎ ((IsRuleOfSymbols r x y → ⊥) × (rule_at new x y ≡ rule_at old x y))
read_by r old new k both x y (inl h) other = inl (inl h, subst (λ a. rule_at new a y ≡ Some k) h.0 (subst (λ b. rule_at new r.heads.0.0 b ≡ Some k) h.1 both.here))
read_by r old new k both x y (inr apart) (inl h) = inl (inr h, subst (λ a. rule_at new a y ≡ Some k) h.1 (subst (λ b. rule_at new r.heads.1.0 b ≡ Some k) h.0 both.turned))
read_by r old new k both x y (inr apart) (inr turned) = inr ((λ h. neither h), both.elsewhere x y (λ e. apart (sym e.0, sym e.1)) (λ e. turned (sym e.1, sym e.0)))
  where
    neither : IsRuleOfSymbols r x y → ⊥
    neither (inl h) = apart h
    neither (inr h) = turned h

read : (r : RuleParts) (old new : Cells) (k : RuleNo) → SetsBoth old r.heads.0.0 r.heads.1.0 k new → (x y : ℕ) →
    (IsRuleOfSymbols r x y × (rule_at new x y ≡ Some k)) ⊎ ((IsRuleOfSymbols r x y → ⊥) × (rule_at new x y ≡ rule_at old x y))
read r old new k both x y = read_by r old new k both x y (written_as r x y) (written_as r y x)

-- the symbols of a rule that isn't there have no earlier rule
unruled : (rules : List RuleParts) (i : ℕ) (r : RuleParts) (table : Cells) → HoldsBelow rules i table → rule_at table r.heads.0.0 r.heads.1.0 ≡ None → (j x y : ℕ) → j < i → IsRuleFor rules j x y → IsRuleOfSymbols r x y → ⊥
unruled rules i r table holds nothing j x y lt h is =
    let k : RuleNo = record { 0 = j } in
    let there = (holds r.heads.0.0 r.heads.1.0 k).1 (lt, record { rule = h.rule; stands = h.stands; symbols = same_symbols r h.rule x y is h.symbols }) in
    none-some k (sym nothing ∙ there)

same_rule : (rules : List RuleParts) (i : ℕ) (r : RuleParts) → slice_get rules i ≡ Some r → (k x y : ℕ) → k ≡ i → IsRuleFor rules k x y → IsRuleOfSymbols r x y
same_rule rules i r stands k x y same h = subst (λ q. IsRuleOfSymbols q x y) (same_Some h.rule r (sym h.stands ∙ ap (slice_get rules) same ∙ stands)) h.symbols

module _ (rules : List RuleParts) (i : ℕ) (r : RuleParts) (old new : Cells) (stands : slice_get rules i ≡ Some r) (holds : HoldsBelow rules i old)
    (nothing : rule_at old r.heads.0.0 r.heads.1.0 ≡ None) (both : SetsBoth old r.heads.0.0 r.heads.1.0 (record { 0 = i }) new) where
  to_rule : (x y : ℕ) (k : RuleNo) → (IsRuleOfSymbols r x y × (rule_at new x y ≡ Some (record { 0 = i }))) ⊎ ((IsRuleOfSymbols r x y → ⊥) × (rule_at new x y ≡ rule_at old x y)) →
      rule_at new x y ≡ Some k → (k.0 < i + 1) × IsRuleFor rules k.0 x y
  to_rule x y k (inl h) e =
      let same : i ≡ k.0 = ap (λ (n : RuleNo). n.0) (same_Some (record { 0 = i }) k (sym h.1 ∙ e)) in
      (omega (arith, same), subst (λ n. IsRuleFor rules n x y) same (record { rule = r; stands = stands; symbols = h.0 }))
  to_rule x y k (inr h) e =
      let before = (holds x y k).0 (sym h.1 ∙ e) in
      (omega (arith, before.0), before.1)

  new_rule : (x y : ℕ) (k : RuleNo) → (IsRuleOfSymbols r x y × (rule_at new x y ≡ Some (record { 0 = i }))) ⊎ ((IsRuleOfSymbols r x y → ⊥) × (rule_at new x y ≡ rule_at old x y)) →
      (k.0 < i) ⊎ (i ≤ k.0) → k.0 < i + 1 → IsRuleFor rules k.0 x y → rule_at new x y ≡ Some k
  new_rule x y k (inl h) (inl lt) short is = absurd (unruled rules i r old holds nothing k.0 x y lt is h.0)
  new_rule x y k (inl h) (inr le) short is =
      let same : i ≡ k.0 = omega (arith, le, short) in
      h.1 ∙ ap (λ n. let m : RuleNo = record { 0 = n } in Some m) same
  new_rule x y k (inr h) (inl lt) short is = h.1 ∙ (holds x y k).1 (lt, is)
  new_rule x y k (inr h) (inr le) short is = absurd (h.0 (same_rule rules i r stands k.0 x y (omega (arith, le, short)) is))

  pub one_more : HoldsBelow rules (i + 1) new
  one_more = λ x y k. ((λ e. to_rule x y k (read r old new (record { 0 = i }) both x y) e), (λ h. new_rule x y k (read r old new (record { 0 = i }) both x y) (cases_lt k.0 i) h.0 h.1))

-- ---- a rule is a second one or not

second_of : (rules : List RuleParts) (i : ℕ) (r : RuleParts) (table : Cells) → slice_get rules i ≡ Some r → HoldsBelow rules i table → (o : Option RuleNo) → rule_at table r.heads.0.0 r.heads.1.0 ≡ o → IsSome o → IsSecond rules i
second_of rules i r table stands holds None is some = cc
second_of rules i r table stands holds (Some k) is some =
    let before = (holds r.heads.0.0 r.heads.1.0 k).0 is in
    record { c = r.heads.0.0; d = r.heads.1.0; before = k.0; is_before = before.0; one = before.1; other = record { rule = r; stands = stands; symbols = inl (refl, refl) } }

pub is_second : (rules : List RuleParts) (i : ℕ) (r : RuleParts) (table : Cells) → slice_get rules i ≡ Some r → HoldsBelow rules i table → IsSome (rule_at table r.heads.0.0 r.heads.1.0) → IsSecond rules i
is_second rules i r table stands holds some = second_of rules i r table stands holds (rule_at table r.heads.0.0 r.heads.1.0) refl some

pub not_second : (rules : List RuleParts) (i : ℕ) (r : RuleParts) (table : Cells) → slice_get rules i ≡ Some r → HoldsBelow rules i table → rule_at table r.heads.0.0 r.heads.1.0 ≡ None → IsSecond rules i → ⊥
not_second rules i r table stands holds nothing h =
    unruled rules i r table holds nothing h.before h.c h.d h.is_before h.one (same_rule rules i r stands i h.c h.d refl h.other)

-- no second one among the first i, and not this one either
pub no_second_more : (rules : List RuleParts) (i : ℕ) → ((k : ℕ) → k < i → IsSecond rules k → ⊥) → (IsSecond rules i → ⊥) → (k : ℕ) → k < i + 1 → IsSecond rules k → ⊥
no_second_more rules i before this k lt h = by (cases_lt k i)
  where
    by : (k < i) ⊎ (i ≤ k) → ⊥
    by (inl less) = before k less h
    by (inr le) = this (subst (IsSecond rules) (omega (arith, le, lt)) h)

-- ---- before the first rule, and after the last

pub holds_nothing : (rules : List RuleParts) (n : ℕ) (table : Cells) → HasNoRule n table → HoldsBelow rules 0 table
holds_nothing rules n table empty = λ c d k. ((λ e. absurd (none-some k (sym (empty.nothing c d) ∙ e))), (λ h. absurd (omega (arith, h.0))))

-- no second one among all
pub none_second : (rules : List RuleParts) → ((k : ℕ) → k < length rules → IsSecond rules k → ⊥) → HasNoSecond rules
none_second rules once = λ k h. once k (slice_get_within rules k h.other.rule h.other.stands) h
