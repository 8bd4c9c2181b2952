use Rattle.in_harness_texts.proofs.BuiltRules.{rule_over, rule_types}
use Rattle.in_harness_texts.proofs.queueing.rule_at.Goals as goal

pub returns-clause-over : goal.returns-clause-over
returns-clause-over c = rule_over c.is_accepted.ensures.accepted.0 c.is_accepted.ensures.accepted.1 c.args.checked.now.program c.is_accepted.ensures.accepted.2 c.args.number c.rule.result.now c.rule.ensures

pub returns-clause-declared : goal.returns-clause-declared
returns-clause-declared c = rule_types c.is_accepted.ensures.accepted.0 c.is_accepted.ensures.accepted.1 c.args.checked.now.program c.is_accepted.ensures.accepted.2 c.args.number c.rule.result.now c.rule.ensures
