use Rattle.std.proofs.Common.{nat_lt, ◌≡◌, ap, subst, ◌∙◌, arith}
use Rattle.std.specs.Prelude.{count_by, is_some}
use Rattle.in_net.specs.Parts.{Parts, IsWhole}
use Rattle.in_open_nets_of_programs.proofs.Counted.{count_all}
use Rattle.in_open_nets_of_programs.proofs.RuleNodes.{count_more, take_whole}
use Rattle.in_open_nets_of_programs.proofs.opening_rules.agents_before.Goals as goal

pub loop-agent-preserved : goal.loop-agent-preserved
loop-agent-preserved c =
    let e = count_more (λ q. nat_lt q.from c.args.rule.now.head_places.1.from) c.args.rule.now.member.places c.loop-agent.agent c.one_before-count.result c.one_before-count.ensures.one in
    let a = c.loop-agent.invariant.count in
    let b = c.loop-agent.invariant.few in
    let d = c.one_before-count.ensures.few in
    record { count = omega arith; few = omega arith }

pub returns-clause-before : goal.returns-clause-before
returns-clause-before c =
    let f = count_all c.args.rule.now.member.cells c.requires.there in
    let whole = subst IsWhole c.member.ensures c.agents-agents.ensures.whole in
    let g = whole.placed c.requires.built in
    let h : c.agents-agents.result ≡ count_by is_some c.args.rule.now.member.cells = c.agents-agents.ensures.count ∙ ap (λ (m : Parts). count_by is_some m.cells) c.member.ensures in
    let k = c.loop-agent-test.false in
    let u = c.loop-agent.auto.agent-end in
    c.loop-agent.invariant.count ∙ ap (count_by (λ q. nat_lt q.from c.args.rule.now.head_places.1.from)) (take_whole c.args.rule.now.member.places c.loop-agent.agent (omega arith))
