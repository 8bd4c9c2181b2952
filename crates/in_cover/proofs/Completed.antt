-- If the table holds all rules and has no gap, the rules are complete; otherwise the first gap is the first pair without a rule.
use Rattle.std.proofs.Common.{◌≡◌, ◌⊎◌, ℕ, ◌<◌, ◌≤◌, Bool, true, false, nat_eq, ◌&&◌, List, length, Option, Some, None, IsSome, refl, sym, ◌∙◌, ap, subst, inl, inr, arith}
use Rattle.std.specs.List.{AllByRecursion}
use Rattle.std.proofs.lemmas.Bool.{cases_lt, cases_order, and_parts}
use Rattle.std.proofs.lemmas.Option.{none-some, same_Some, slice_get_within}
use Rattle.in_syntax.specs.declared.faults.Refusal.{Refusal}
use Rattle.in_symbols.specs.Tables.{Tables, port_at, is_constructor, are_opposite, matching}
use Rattle.in_net.specs.Rules.{RuleParts}
use Rattle.in_net.proofs.Public.{equal_turned}
use Rattle.in_cover.specs.declared.table.RuleNo.{RuleNo}
use Rattle.in_cover.specs.Cover.{IsPair, IsRuleOfPair, IsRuleFor, IsComplete, Numbers, IsTableOf, IsMissing, IsMissingAt, IsFirstMissing}
use Rattle.in_cover.specs.Covering.{HoldsBelow, IsGap, HasNoGapBelow, HasNoGapIn}
use Rattle.in_cover.specs.Table.{Cells, rule_at}
use Rattle.in_cover.proofs.Numbered.{turn_rule}
use Rattle.in_base.proofs.Each.{all_at}

-- ---- matching symbols

opposite_turned : (a b : Bool) → are_opposite a b ≡ are_opposite b a
opposite_turned true true = refl
opposite_turned true false = refl
opposite_turned false true = refl
opposite_turned false false = refl

not_itself : (a : Bool) → are_opposite a a ≡ true → ⊥
not_itself true e = cc
not_itself false e = cc

matching_turned : (t : Tables) (c d : ℕ) → matching t c d ≡ matching t d c
matching_turned t c d =
    ap (λ b. b && are_opposite (is_constructor t c) (is_constructor t d)) (equal_turned (port_at t c 0).kind (port_at t d 0).kind)
    ∙ ap (λ b. nat_eq (port_at t d 0).kind (port_at t c 0).kind && b) (opposite_turned (is_constructor t c) (is_constructor t d))

turn_pair : (t : Tables) (c d : ℕ) → IsPair t c d → IsPair t d c
turn_pair t c d h = record { first = h.second; second = h.first; matched = matching_turned t d c ∙ h.matched }

no_pair : (t : Tables) (c d : ℕ) → c ≡ d → IsPair t c d → ⊥
no_pair t c d same h =
    not_itself (is_constructor t d) (and_parts (nat_eq (port_at t d 0).kind (port_at t d 0).kind) (are_opposite (is_constructor t d) (is_constructor t d)) (subst (λ x. matching t x d ≡ true) same h.matched)).1

-- ---- the whole table

module _ (t : Tables) (rules : List RuleParts) (table : Cells) (pairs : AllByRecursion (IsRuleOfPair t) rules) (holds : HoldsBelow rules (length rules) table) where
  number : Numbers table rules
  number c d k = ((λ e. ((holds c d k).0 e).1), (λ h. (holds c d k).1 (slice_get_within rules k.0 h.rule h.stands, h)))

  turned : (c d : ℕ) (k : RuleNo) → rule_at table c d ≡ Some k → rule_at table d c ≡ Some k
  turned c d k e = (number d c k).1 (turn_rule rules k.0 c d ((number c d k).0 e))

  -- ---- without a gap

  module _ (full : HasNoGapIn t table (length t.names)) where
    below_by : (c d : ℕ) → IsPair t c d → d < c → (o : Option RuleNo) → rule_at table c d ≡ o → (k : RuleNo) × (rule_at table c d ≡ Some k)
    below_by c d pair lt None is = absurd (full c pair.first d lt (pair.matched, is))
    below_by c d pair lt (Some k) is = (k, is)

    found_by : (c d : ℕ) → IsPair t c d → (c ≡ d) ⊎ ((c < d) ⊎ (d < c)) → (k : RuleNo) × (rule_at table c d ≡ Some k)
    found_by c d pair (inl same) = absurd (no_pair t c d same pair)
    found_by c d pair (inr (inl lt)) =
        let other = below_by d c (turn_pair t c d pair) lt (rule_at table d c) refl in
        (other.0, turned d c other.0 other.1)
    found_by c d pair (inr (inr lt)) = below_by c d pair lt (rule_at table c d) refl

    found : (c d : ℕ) → IsPair t c d → (k : RuleNo) × (rule_at table c d ≡ Some k)
    found c d pair = found_by c d pair (cases_order c d)

    pub complete : IsComplete t rules
    complete = record {
      at_least_one = λ c d pair. let k = found c d pair in (k.0.0, (number c d k.0).0 k.1);
      at_most_one = λ c d j k h i.
          let one : RuleNo = record { 0 = j } in
          let other : RuleNo = record { 0 = k } in
          ap (λ (n : RuleNo). n.0) (same_Some one other (sym ((number c d one).1 h) ∙ (number c d other).1 i));
      pairs_alone = λ c d k h.
          let own : IsPair t h.rule.heads.0.0 h.rule.heads.1.0 = all_at (IsRuleOfPair t) rules k h.rule pairs h.stands in
          elim h.symbols [
            | inl e ↦ subst (λ x. IsPair t x d) e.0 (subst (λ y. IsPair t h.rule.heads.0.0 y) e.1 own)
            | inr e ↦ turn_pair t d c (subst (λ x. IsPair t x c) e.0 (subst (λ y. IsPair t h.rule.heads.0.0 y) e.1 own))
          ];
    }

    pub table_of : IsTableOf t rules table
    table_of = record {
      numbers = λ c d k. number c d k;
      pairs = λ c d pair. let k = found c d pair in subst IsSome (sym k.1) refl;
    }

  -- ---- the first gap

  as_missing : (c d : ℕ) → c < length t.names → d < c → IsGap t table c d → IsMissing t rules c d
  as_missing c d in_c lt gap = record {
    pair = record { first = in_c; second = omega (arith, in_c, lt); matched = gap.0 };
    declared = lt;
    unruled = λ k h. let n : RuleNo = record { 0 = k } in none-some n (sym gap.1 ∙ (number c d n).1 h);
  }

  no_number : (c d : ℕ) → ((k : ℕ) → IsRuleFor rules k c d → ⊥) → (o : Option RuleNo) → rule_at table c d ≡ o → rule_at table c d ≡ None
  no_number c d nothing None is = is
  no_number c d nothing (Some k) is = absurd (nothing k.0 ((number c d k).0 is))

  as_gap : (c d : ℕ) → IsMissing t rules c d → IsGap t table c d
  as_gap c d h = (h.pair.matched, no_number c d h.unruled (rule_at table c d) refl)

  pub first_missing : (later earlier : ℕ) (refusal : Refusal) → later < length t.names → earlier < later → IsGap t table later earlier → HasNoGapIn t table later → HasNoGapBelow t table later earlier →
      IsMissingAt t later earlier refusal → IsFirstMissing t rules refusal
  first_missing later earlier refusal in_later lt gap before below refused = record {
    later = later;
    earlier = earlier;
    missing = as_missing later earlier in_later lt gap;
    first = λ c d h. by c d h (cases_order later c);
    refused = refused;
  }
    where
      at_later : (c d : ℕ) → later ≡ c → IsMissing t rules c d → (d < earlier) ⊎ (earlier ≤ d) → (later < c) ⊎ ((later ≡ c) × (earlier ≤ d))
      at_later c d same h (inl less) = absurd (below d less (subst (λ x. IsGap t table x d) (sym same) (as_gap c d h)))
      at_later c d same h (inr le) = inr (same, le)

      by : (c d : ℕ) → IsMissing t rules c d → (later ≡ c) ⊎ ((later < c) ⊎ (c < later)) → (later < c) ⊎ ((later ≡ c) × (earlier ≤ d))
      by c d h (inl same) = at_later c d same h (cases_lt d earlier)
      by c d h (inr (inl less)) = inl less
      by c d h (inr (inr more)) = absurd (before c more d h.declared (as_gap c d h))
