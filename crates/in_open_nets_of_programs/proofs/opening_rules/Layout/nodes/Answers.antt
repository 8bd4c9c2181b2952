use Rattle.std.proofs.Common.{◌+◌, ◌≡◌, ◌≤◌, length, ap, subst, arith}
use Rattle.std.specs.Prelude.{count_by, is_some}
use Rattle.in_open_nets_of_programs.specs.OpeningRules.{IsRuleNode, LaidOut, rule_nodes}
use Rattle.in_open_nets_of_programs.proofs.Counted.{count_all}
use Rattle.in_open_nets_of_programs.proofs.RuleNodes.{each_more, length_more}
use Rattle.in_open_nets_of_programs.proofs.opening_rules.Layout.nodes.Goals as goal
use Rattle.in_syntax.specs.Grammar.{max_ports}

pub loop-number-preserved : goal.loop-number-preserved
loop-number-preserved c =
    let i = c.loop-number.invariant in
    let n = c.node.ensures in
    record {
      count = length_more _ _ _ _ c.in_ok-push.ensures.ok i.count;
      each = each_more (IsRuleNode c.args.self.now.tables c.args.self.now.rule) _ _ _ _ c.in_ok-push.ensures.ok i.count i.each n.node;
      few = each_more (λ n node. length node.class_of ≤ max_ports + 1) _ _ _ _ c.in_ok-push.ensures.ok i.count i.few n.few;
    }

pub returns-clause-nodes : goal.returns-clause-nodes
returns-clause-nodes c =
    let p = c.self.inside.rule.now in
    let f = count_all p.member.cells c.self.invariant.whole.there in
    let g = c.agents.ensures.count in
    let h : count_by is_some c.member.result.now.cells ≡ count_by is_some p.member.cells = ap (λ m. count_by is_some m.cells) c.member.ensures in
    let a = c.self.invariant.first_is in
    let b = c.self.invariant.second_is in
    let d = c.loop-number.invariant.count in
    let k = c.loop-number-test.false in
    let u = c.loop-number.auto.number-end in
    let all : length c.loop-number.nodes ≡ rule_nodes c.self.inside.symbols.now p = omega arith in
    (subst (λ (s : LaidOut). length c.loop-number.nodes ≡ rule_nodes s.tables s.rule) c.self.view_is all, c.loop-number.invariant.each)
