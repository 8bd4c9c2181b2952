-- Templates are put, one after another, at the places of their two symbols: each stays there, since no two have the same symbols.
use Rattle.std.proofs.Common.{◌≡◌, ◌⊎◌, inl, inr, ◌<◌, ◌≤◌, ◌+◌, ◌*◌, ℕ, Option, Some, List, length, slice_get, slice_set, sym, ap, subst, ◌∙◌, arith}
use Rattle.std.specs.Arc.{arc_value}
use Rattle.std.specs.declared.sync.Arc.{Arc}
use Rattle.std.proofs.lemmas.Bool.{cases_lt}
use Rattle.std.proofs.lemmas.Nat.{mul-add-lt, same_from_place}
use Rattle.std.proofs.lemmas.Option.{same_Some, slice_get_within}
use Rattle.in_base.proofs.Each.{at_index}
use Rattle.in_base.proofs.Places.{set_here, set_there}
use Rattle.in_symbols.specs.Tables.{Tables}
use Rattle.in_syntax.specs.declared.symbol_no.SymbolNo.{SymbolNo}
use Rattle.in_net.specs.Rules.{RuleParts}
use Rattle.in_cover.specs.Cover.{IsComplete, IsPair, IsRuleFor, IsTableOf}
use Rattle.in_cover.specs.Table.{Cells, rule_at}
use Rattle.in_cover.specs.declared.table.RuleNo.{RuleNo}
use Rattle.in_compile.specs.Finding.{AreFoundBySymbols, AreNumberedBySymbols, HasAt, PutsAt}
use Rattle.in_compile.specs.Templates.{HaveTemplates, TemplateParts}

pub within : (size c d places : ℕ) → c < size → d < size → places ≡ size * size → c * size + d < places
within size c d places lt lt' long = let m = mul-add-lt c size d size lt lt' in omega (arith, m, long)

module _ {Z : Type 0} (size : ℕ) where
  module _ (old new : List (Option (Arc TemplateParts Z))) (template : Arc TemplateParts Z) where
    -- what was put at the place of two symbols is there
    pub put_here : (c d : ℕ) → c * size + d < length old → PutsAt old (c * size + d) template new → HasAt new size c d (arc_value template)
    put_here c d lt puts = (puts.0, ap (λ (z : List (Option (Arc TemplateParts Z))). slice_get z (c * size + d)) puts.2 ∙ set_here old (c * size + d) (Some puts.0) lt, puts.1)

    -- .. and what is at the place of two others stays
    pub stays_there : (c d x y : ℕ) (p : TemplateParts) → d < size → y < size → ((c ≡ x) × (d ≡ y) → ⊥) → PutsAt old (x * size + y) template new → HasAt old size c d p → HasAt new size c d p
    stays_there c d x y p lt lt' apart puts has = (
      has.0,
      ap (λ (z : List (Option (Arc TemplateParts Z))). slice_get z (c * size + d)) puts.2 ∙ set_there old (x * size + y) (c * size + d) (Some puts.0) (λ e. apart (same_from_place c d x y size lt lt' e)) ∙ has.1,
      has.2,
    )

    -- .. and so does the same template, wherever it is put
    pub stays_same : (c d place : ℕ) → place < length old → PutsAt old place template new → HasAt old size c d (arc_value template) → HasAt new size c d (arc_value template)
    stays_same c d place lt puts has = go (cases_lt place (c * size + d)) (cases_lt (c * size + d) place)
      where
        apart : ((c * size + d ≡ place) → ⊥) → HasAt new size c d (arc_value template)
        apart other = (has.0, ap (λ (z : List (Option (Arc TemplateParts Z))). slice_get z (c * size + d)) puts.2 ∙ set_there old place (c * size + d) (Some puts.0) other ∙ has.1, has.2)

        here : place ≡ c * size + d → HasAt new size c d (arc_value template)
        here same = (puts.0, ap (λ (z : List (Option (Arc TemplateParts Z))). slice_get z (c * size + d)) puts.2 ∙ ap (slice_get (slice_set old place (Some puts.0))) (sym same) ∙ set_here old place (Some puts.0) lt, puts.1)

        go : (place < c * size + d) ⊎ (c * size + d ≤ place) → (c * size + d < place) ⊎ (place ≤ c * size + d) → HasAt new size c d (arc_value template)
        go (inl less) b = apart (λ e. omega (arith, less, e))
        go (inr le) (inl less) = apart (λ e. omega (arith, less, e))
        go (inr le) (inr le') = here (omega (arith, le, le'))

-- two rules are for other symbols
apart_from : (numbers : Cells) (j k c d x y : ℕ) → rule_at numbers c d ≡ Some (record { 0 = j }) → rule_at numbers x y ≡ Some (record { 0 = k }) → j < k → (c ≡ x) × (d ≡ y) → ⊥
apart_from numbers j k c d x y one other less same =
    let e : ◌≡◌ {A = RuleNo} (record { 0 = j }) (record { 0 = k }) = same_Some _ _ (sym one ∙ ap (λ z. rule_at numbers z d) same.0 ∙ ap (rule_at numbers x) same.1 ∙ other) in
    let n = ap (λ (r : RuleNo). r.0) e in
    omega (arith, n, less)

module _ {Z : Type 0} (ts : List TemplateParts) (numbers : Cells) (size : ℕ) (known : AreNumberedBySymbols ts numbers size) where
  module _ (old mid new : List (Option (Arc TemplateParts Z))) (n : ℕ) (t : Arc TemplateParts Z) (stands : slice_get ts n ≡ Some (arc_value t)) where
    pub one_more : PutsAt old ((arc_value t).heads.0.0 * size + (arc_value t).heads.1.0) t mid → PutsAt mid ((arc_value t).heads.1.0 * size + (arc_value t).heads.0.0) t new →
        length mid ≡ length old → length new ≡ length mid → AreFoundBySymbols ts size n old → AreFoundBySymbols ts size (n + 1) new
    one_more first second long_mid long_new h = record {
      long = long_new ∙ long_mid ∙ h.long;
      one = λ k p l s. both_one k p l s (cases_lt k n);
      other = λ k p l s. both_other k p l s (cases_lt k n);
    }
      where
        few : ((arc_value t).heads.0.0 < size) × ((arc_value t).heads.1.0 < size)
        few = known.small n (arc_value t) stands

        in_old : (arc_value t).heads.0.0 * size + (arc_value t).heads.1.0 < length old
        in_old = within size _ _ (length old) few.0 few.1 h.long

        in_mid : (arc_value t).heads.1.0 * size + (arc_value t).heads.0.0 < length mid
        in_mid = within size _ _ (length mid) few.1 few.0 (long_mid ∙ h.long)

        kept : (k c d : ℕ) (p : TemplateParts) → k < n → d < size → rule_at numbers c d ≡ Some (record { 0 = k }) → HasAt old size c d p → HasAt new size c d p
        kept k c d p less lt is has =
            stays_there size mid new t c d _ _ p lt few.0 (apart_from numbers k n c d _ _ is (known.other n (arc_value t) stands) less) second
            (stays_there size old mid t c d _ _ p lt few.1 (apart_from numbers k n c d _ _ is (known.one n (arc_value t) stands) less) first has)

        newest : (k : ℕ) (p : TemplateParts) → k < n + 1 → n ≤ k → slice_get ts k ≡ Some p → arc_value t ≡ p
        newest k p l le s = same_Some (arc_value t) p (sym stands ∙ ap (slice_get ts) (let e : n ≡ k = omega (arith, l, le) in e) ∙ s)

        both_one : (k : ℕ) (p : TemplateParts) → k < n + 1 → slice_get ts k ≡ Some p → (k < n) ⊎ (n ≤ k) → HasAt new size p.heads.0.0 p.heads.1.0 p
        both_one k p l s (inl less) = kept k _ _ p less (known.small k p s).1 (known.one k p s) (h.one k p less s)
        both_one k p l s (inr le) = subst (λ (q : TemplateParts). HasAt new size q.heads.0.0 q.heads.1.0 q) (newest k p l le s) (stays_same size mid new t _ _ _ in_mid second (put_here size old mid t _ _ in_old first))

        both_other : (k : ℕ) (p : TemplateParts) → k < n + 1 → slice_get ts k ≡ Some p → (k < n) ⊎ (n ≤ k) → HasAt new size p.heads.1.0 p.heads.0.0 p
        both_other k p l s (inl less) = kept k _ _ p less (known.small k p s).0 (known.other k p s) (h.other k p less s)
        both_other k p l s (inr le) = subst (λ (q : TemplateParts). HasAt new size q.heads.1.0 q.heads.0.0 q) (newest k p l le s) (put_here size mid new t _ _ in_mid second)

-- ---- the templates of a program

module _ (t : Tables) (rules : List RuleParts) (ts : List TemplateParts) (numbers : Cells) (size : ℕ) where
  module _ (have : HaveTemplates t rules ts) (table : IsTableOf t rules numbers) (complete : IsComplete t rules) (symbols : size ≡ length t.names) where
    module _ (k : ℕ) (p : TemplateParts) (stands : slice_get ts k ≡ Some p) where
      its_rule : (r : RuleParts) × (slice_get rules k ≡ Some r)
      its_rule = at_index rules k (let l = slice_get_within ts k p stands in let e = have.count_is in omega (arith, l, e))

      same_heads : its_rule.0.heads ≡ p.heads
      same_heads = sym (have.each k its_rule.0 p its_rule.1 stands).heads

      one_way : IsRuleFor rules k p.heads.0.0 p.heads.1.0
      one_way = record { rule = its_rule.0; stands = its_rule.1; symbols = inl (ap (λ (h : SymbolNo × SymbolNo). h.0.0) same_heads, ap (λ (h : SymbolNo × SymbolNo). h.1.0) same_heads) }

      other_way : IsRuleFor rules k p.heads.1.0 p.heads.0.0
      other_way = record { rule = its_rule.0; stands = its_rule.1; symbols = inr (ap (λ (h : SymbolNo × SymbolNo). h.0.0) same_heads, ap (λ (h : SymbolNo × SymbolNo). h.1.0) same_heads) }

      pair : IsPair t p.heads.0.0 p.heads.1.0
      pair = complete.pairs_alone p.heads.0.0 p.heads.1.0 k one_way

    pub numbered : AreNumberedBySymbols ts numbers size
    numbered = record {
      one = λ k p s. (table.numbers p.heads.0.0 p.heads.1.0 (record { 0 = k })).1 (one_way k p s);
      other = λ k p s. (table.numbers p.heads.1.0 p.heads.0.0 (record { 0 = k })).1 (other_way k p s);
      small = λ k p s. let q = pair k p s in let a = q.first in let b = q.second in (omega (arith, a, symbols), omega (arith, b, symbols));
      alone = λ c d k p is s.
          let rule = (table.numbers c d k).0 is in
          subst (λ (h : SymbolNo × SymbolNo). ((h.0.0 ≡ c) × (h.1.0 ≡ d)) ⊎ ((h.0.0 ≡ d) × (h.1.0 ≡ c))) (sym (have.each k.0 rule.rule p rule.stands s).heads) rule.symbols;
    }
