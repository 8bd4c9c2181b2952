-- The template of an active pair is found by the symbols of its agents.
use Rattle.std.proofs.Common.{◌≡◌, ◌≤◌, ℕ, Some, IsSome, slice_get, sym, ap, subst, ◌∙◌}
use Rattle.std.proofs.lemmas.Option.{same_Some}
use Rattle.in_arena.specs.declared.content.CellClass.{CellClass}
use Rattle.in_syntax.specs.declared.symbol_no.SymbolNo.{SymbolNo}
use Rattle.in_net.specs.Parts.{symbol_in}
use Rattle.in_cover.specs.Cover.{IsPair, IsRuleOfSymbols}
use Rattle.in_net.specs.Rules.{RuleParts}
use Rattle.in_check.specs.Plain.{IsPairAt, IsRuleAt}
use Rattle.in_base.proofs.Places.{is_some as there}
use Rattle.in_order.proofs.Public.{reducible_pairs_have_their_rule}
use Rattle.in_interaction.specs.Queues.{agents_at}
use Rattle.in_compile.specs.declared.cells.Need.{Need}
use Rattle.in_compile.specs.Cells.{count_of}
use Rattle.in_compile.specs.Laws.{HasOneTemplate}
use Rattle.in_compile.specs.Templates.{TemplateParts, TemplatesParts, IsLargestNeed, IsTemplateOf, AreTemplatesOf, template_at}
use Rattle.in_compile.proofs.Public.{complete, one_for}
use Rattle.in_reducer.specs.Machines.{MachineParts, parts_of, plain_of}
use Rattle.in_reducer.specs.Reducers.{IsReducer}
use Rattle.in_reducer.specs.Steps.{NeedsAt}
use Rattle.in_reducer.specs.Templates.{IsTemplateAt}
use Rattle.in_reducer.proofs.Steps.Ordered.{pair_at}
use Rattle.in_reducer.proofs.Pairs.Queues.{reducer_promised}

module _ (m : MachineParts) (h : IsReducer m) (i : ℕ) (q : ℕ × ℕ) (stands : slice_get m.queue i ≡ Some q) where
  pub at_pair : IsPairAt (plain_of m) (agents_at q).0 (agents_at q).1
  at_pair = pair_at m.program (parts_of m) (reducer_promised m h) (agents_at q) (h.queue.pairs i q stands)

  module _ (ts : TemplatesParts) (are : AreTemplatesOf m.program ts) (c d : SymbolNo) (one : symbol_in (parts_of m) q.0 ≡ Some c) (two : symbol_in (parts_of m) q.1 ≡ Some d) where
    first : at_pair.first ≡ c
    first = same_Some at_pair.first c (sym at_pair.one ∙ one)

    second : at_pair.second ≡ d
    second = same_Some at_pair.second d (sym at_pair.two ∙ two)

    its : IsPair m.program.tables at_pair.first.0 at_pair.second.0 × ((k : ℕ) (r : RuleParts) → slice_get m.program.rules k ≡ Some r → IsRuleOfSymbols r at_pair.first.0 at_pair.second.0 → IsRuleAt (plain_of m) (agents_at q).0 (agents_at q).1 k r)
    its = reducible_pairs_have_their_rule h.accepted.0 h.accepted.1 (plain_of m) (agents_at q).0 (agents_at q).1 h.accepted.2 h.net at_pair

    its_template : HasOneTemplate m.program ts at_pair.first.0 at_pair.second.0
    its_template = one_for m.program ts are (complete h.accepted.0 h.accepted.1 m.program h.accepted.2) at_pair.first.0 at_pair.second.0 its.0

    found : template_at ts c.0 d.0 ≡ Some its_template.template
    found = ap (λ (z : SymbolNo × SymbolNo). template_at ts z.0.0 z.1.0) (λ j. (sym first j, sym second j)) ∙ its_template.found

    pub is_there : IsSome (template_at ts c.0 d.0)
    is_there = there (template_at ts c.0 d.0) its_template.template found

    pub is_template : (p : TemplateParts) → template_at ts c.0 d.0 ≡ Some p → IsTemplateAt m i p
    is_template p e = record {
      pair = q;
      stands = stands;
      active = at_pair;
      number = its_template.number;
      rule = its_template.is_rule.rule;
      is_rule = its.1 its_template.number its_template.is_rule.rule its_template.is_rule.stands its_template.is_rule.symbols;
      template = subst (IsTemplateOf m.program.tables its_template.is_rule.rule) (same_Some its_template.template p (sym found ∙ e)) its_template.of_rule;
    }

    -- its template is one of those, so it needs no more of a class than the largest need says
    pub its_need : (x : Need) × NeedsAt m i x × ((most : Need) → IsLargestNeed ts.templates most → (class : CellClass) → count_of x class ≤ count_of most class)
    its_need = (
      its_template.template.member.need,
      record {
        pair = q;
        stands = stands;
        number = its_template.number;
        rule = its_template.is_rule.rule;
        is_rule = its.1 its_template.number its_template.is_rule.rule its_template.is_rule.stands its_template.is_rule.symbols;
        is_need = its_template.of_rule.member.need;
      },
      λ most is class. (is class).0 its_template.number its_template.template its_template.stands,
    )
