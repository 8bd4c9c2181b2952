use Rattle.std.proofs.Common.{◌≡◌, ◌≤◌, [], ◌∷◌, ◌++◌, length, sym, ap, ◌∙◌, subst}
use Rattle.std.specs.Arc.{arc_value}
use Rattle.std.proofs.lemmas.List.{map-append}
use Rattle.in_syntax.specs.TextLimits.{most_symbols}
use Rattle.in_symbols.specs.Tables.{Tables}
use Rattle.in_net.specs.Rules.{IsRuleOver}
use Rattle.in_open_nets_of_programs.specs.OpeningRules.{IsRuleWhole}
use Rattle.in_compile.specs.Finding.{listed}
use Rattle.in_compile.specs.Templates.{IsTemplateOf, TemplateParts}
use Rattle.in_compile.proofs.Compiled.Accepted.{few_symbols, rule_over, whole_rule}
use Rattle.in_compile.proofs.Compiled.Made.{one_more}
use Rattle.in_compile.proofs.compiling.templates_of.Goals as goal

pub template-requires-clause-few_symbols : goal.template-requires-clause-few_symbols
template-requires-clause-few_symbols c = subst (λ (t : Tables). length t.names ≤ most_symbols) (sym c.symbols.ensures) (few_symbols c.is_accepted.ensures.accepted.0 c.is_accepted.ensures.accepted.1 c.args.checked.now.program c.is_accepted.ensures.accepted.2)

pub template-requires-clause-over : goal.template-requires-clause-over
template-requires-clause-over c =
    let r = c.rule-rule.result.now in
    subst (λ (t : Tables). IsRuleOver t r) (sym c.symbols.ensures) (rule_over c.is_accepted.ensures.accepted.0 c.is_accepted.ensures.accepted.1 c.args.checked.now.program c.is_accepted.ensures.accepted.2 c.loop-number.number r c.rule-rule.ensures)

pub template-requires-clause-whole : goal.template-requires-clause-whole
template-requires-clause-whole c =
    let r = c.rule-rule.result.now in
    subst (λ (t : Tables). IsRuleWhole t r) (sym c.symbols.ensures) (whole_rule c.is_accepted.ensures.accepted.0 c.is_accepted.ensures.accepted.1 c.args.checked.now.program c.is_accepted.ensures.accepted.2 c.loop-number.number r c.rule-rule.ensures)

pub loop-number-preserved : goal.loop-number-preserved
loop-number-preserved c =
    let p = c.args.checked.now.program in
    let r = c.rule-rule.result.now in
    let made = c.in_ok-made.made in
    let old = c.loop-number.templates in
    let a = c.in_ok-new.field-0 in
    let more : listed c.push.new.self ≡ listed old ++ made ∷ [] =
    ap listed c.in_ok-push.ensures.ok ∙ map-append arc_value old (a ∷ []) ∙ ap (λ (z : TemplateParts). listed old ++ z ∷ []) c.in_ok-new.ensures.ok in
    one_more p.tables p.rules c.loop-number.number r made (listed old) (listed c.push.new.self) c.rule-rule.ensures
    (subst (λ (t : Tables). IsTemplateOf t r made) c.symbols.ensures c.in_ok-made.ensures) c.loop-number.invariant more
