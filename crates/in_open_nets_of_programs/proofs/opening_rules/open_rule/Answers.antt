use Rattle.std.proofs.Common.{refl, sym, subst}
use Rattle.in_net.specs.Rules.{IsRuleOver}
use Rattle.in_open_nets_of_programs.specs.Opening.{AreNumbered}
use Rattle.in_open_nets_of_programs.specs.OpeningRules.{IsRuleWhole}
use Rattle.in_open_nets_of_programs.proofs.OpenedRules.{is_orderly}
use Rattle.in_open_nets_of_programs.proofs.opening_rules.open_rule.Goals as goal

pub new-requires : goal.new-requires
new-requires c =
    let t = c.of-layout.result.tables in
    let p = c.of-layout.result.rule in
    let e = sym c.of-layout.ensures.tables in
    let f = sym c.of-layout.ensures.rule in
    let numbered = subst AreNumbered e c.requires.numbered in
    let whole = subst (λ z. IsRuleWhole t z) f (subst (λ z. IsRuleWhole z c.args.rule.now) e c.requires.whole) in
    let over = subst (λ z. IsRuleOver t z) f (subst (λ z. IsRuleOver z c.args.rule.now) e c.requires.over) in
    is_orderly t p _ numbered whole c.in_ok-nodes.ensures.member over.member over.built (record { nodes = c.in_ok-nodes.ensures.nodes; wires = c.in_ok-wires.ensures; free = refl }) c.in_ok-nodes.ensures.small c.in_ok-nodes.ensures.few
