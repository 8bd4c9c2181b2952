use Rattle.std.proofs.Common.{◌<◌, rules, sym, subst}
use Rattle.in_open_nets_of_programs.specs.OpeningRules.{IsRuleNode, LaidOut, rule_nodes}
use Rattle.in_open_nets_of_programs.proofs.opening_rules.Layout.node.Goals as goal

pub returns-then-at-self-clause-node : goal.returns-then-at-self-clause-node
returns-then-at-self-clause-node c =
    let lt : c.args.number < rule_nodes c.self.inside.symbols.now c.self.inside.rule.now = subst (λ (s : LaidOut). c.args.number < rule_nodes s.tables s.rule) (sym c.self.view_is) c.requires in
    subst (λ (s : LaidOut). IsRuleNode s.tables s.rule c.args.number c.node.result) c.self.view_is (search rules)

pub returns-then-at-self-2-clause-node : goal.returns-then-at-self-2-clause-node
returns-then-at-self-2-clause-node c =
    let lt : c.args.number < rule_nodes c.self.inside.symbols.now c.self.inside.rule.now = subst (λ (s : LaidOut). c.args.number < rule_nodes s.tables s.rule) (sym c.self.view_is) c.requires in
    subst (λ (s : LaidOut). IsRuleNode s.tables s.rule c.args.number c.class_node-then-at-self-2.result) c.self.view_is (search rules)

pub returns-clause-node : goal.returns-clause-node
returns-clause-node c =
    let lt : c.args.number < rule_nodes c.self.inside.symbols.now c.self.inside.rule.now = subst (λ (s : LaidOut). c.args.number < rule_nodes s.tables s.rule) (sym c.self.view_is) c.requires in
    subst (λ (s : LaidOut). IsRuleNode s.tables s.rule c.args.number c.node-2.result) c.self.view_is (search rules)
