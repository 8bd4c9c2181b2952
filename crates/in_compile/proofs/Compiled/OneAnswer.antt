-- Compiling a program has one result.
use Rattle.std.proofs.Common.{◌≡◌, ◌⊎◌, inl, inr, ℕ, Option, Some, None, List, length, slice_get, refl, sym, ap, ◌∙◌, arith}
use Rattle.std.specs.Prelude.{option_and_then}
use Rattle.std.proofs.lemmas.Option.{slice_get_within}
use Rattle.in_net.proofs.Public.{all_same}
use Rattle.in_base.proofs.Each.{at_index}
use Rattle.in_cover.specs.declared.table.RuleNo.{RuleNo}
use Rattle.in_cover.specs.Laws.{AreOneTable}
use Rattle.in_cover.specs.Table.{rule_at}
use Rattle.in_check.specs.Programs.{Program}
use Rattle.in_compile.specs.declared.cells.Need.{Need}
use Rattle.in_compile.specs.Cells.{count_of}
use Rattle.in_compile.specs.Laws.{AreAlike}
use Rattle.in_compile.specs.Templates.{TemplateParts, TemplatesParts, IsMost, cells_needed, IsLargestNeed, AreTemplatesOf}
use Rattle.in_compile.proofs.Needs.Classes.{same_need}
use Rattle.in_compile.proofs.Needs.Most.{HasIt}
use Rattle.in_compile.proofs.Compiled.OneTemplate.{one_member, one_template}

-- ---- the largest need and the most agents

module _ (ts : List TemplateParts) (count : TemplateParts → ℕ) where
  pub one_most : (n m : ℕ) → IsMost ts count n → IsMost ts count m → n ≡ m
  one_most n m h g = by_cases h.1 g.1
    where
      by_cases : ((length ts ≡ 0) × (n ≡ 0)) ⊎ HasIt ts count n → ((length ts ≡ 0) × (m ≡ 0)) ⊎ HasIt ts count m → n ≡ m
      by_cases (inl x) (inl y) = x.1 ∙ sym y.1
      by_cases (inl x) (inr y) = absurd (let l = slice_get_within ts y.0 y.1 y.2 in let e = x.0 in omega (arith, l, e))
      by_cases (inr x) (inl y) = absurd (let l = slice_get_within ts x.0 x.1 x.2 in let e = y.0 in omega (arith, l, e))
      by_cases (inr x) (inr y) =
          let less = g.0 x.0 x.1 x.2 in
          let more = h.0 y.0 y.1 y.2 in
          let e = x.3 in
          let f = y.3 in
          omega (arith, less, more, e, f)

pub one_largest : (ts : List TemplateParts) (n m : Need) → IsLargestNeed ts n → IsLargestNeed ts m → n ≡ m
one_largest ts n m h g = same_need n m (λ c. one_most ts (cells_needed c) (count_of n c) (count_of m c) (h c) (g c))

-- ---- the templates

module _ (p : Program) (ts us : TemplatesParts) (h : AreTemplatesOf p ts) (g : AreTemplatesOf p us) where
  numbers : AreOneTable ts.numbers us.numbers
  numbers c d = by_rule (rule_at ts.numbers c d) (rule_at us.numbers c d) refl refl
    where
      by_rule : (x y : Option RuleNo) → rule_at ts.numbers c d ≡ x → rule_at us.numbers c d ≡ y → rule_at ts.numbers c d ≡ rule_at us.numbers c d
      by_rule (Some x) y is at = is ∙ sym ((g.numbers.numbers c d x).1 ((h.numbers.numbers c d x).0 is))
      by_rule None (Some y) is at = (h.numbers.numbers c d y).1 ((g.numbers.numbers c d y).0 at) ∙ sym at
      by_rule None None is at = is ∙ sym at

  one_at : (k : ℕ) (o u : Option TemplateParts) → slice_get ts.templates k ≡ o → slice_get us.templates k ≡ u → slice_get ts.templates k ≡ slice_get us.templates k
  one_at k None None e f = e ∙ sym f
  one_at k None (Some y) e f = absurd (let l = slice_get_within us.templates k y f in let x = at_index ts.templates k (let a = h.templates.count_is in let b = g.templates.count_is in omega (arith, l, a, b)) in let w = x.1 in cc)
  one_at k (Some x) None e f = absurd (let l = slice_get_within ts.templates k x e in let y = at_index us.templates k (let a = h.templates.count_is in let b = g.templates.count_is in omega (arith, l, a, b)) in let w = y.1 in cc)
  one_at k (Some x) (Some y) e f =
      let l = slice_get_within ts.templates k x e in
      let r = at_index p.rules k (let a = h.templates.count_is in omega (arith, l, a)) in
      e ∙ ap (λ (z : TemplateParts). Some z) (one_template p.tables r.0 x y (h.templates.each k r.0 x r.1 e) (g.templates.each k r.0 y r.1 f)) ∙ sym f

  templates : ts.templates ≡ us.templates
  templates = all_same ts.templates us.templates (λ k. one_at k (slice_get ts.templates k) (slice_get us.templates k) refl refl)

  pub alike : AreAlike ts us
  alike = record {
    templates = templates;
    start = one_member p.tables p.net ts.start us.start h.start g.start;
    found = λ c d.
        ap (λ (o : Option RuleNo). option_and_then (λ (k : RuleNo). slice_get ts.templates k.0) o) (numbers c d)
        ∙ ap (λ (xs : List TemplateParts). option_and_then (λ (k : RuleNo). slice_get xs k.0) (rule_at us.numbers c d)) templates;
  }
