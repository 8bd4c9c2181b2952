use Rattle.in_harness_texts.proofs.opening.rule_opened.Goals as goal

pub open_rule-requires-clause-whole : goal.open_rule-requires-clause-whole
open_rule-requires-clause-whole c =
    let built = c.in_ok-rule.ensures in
    c.text_rules_are_whole.ensures c.args.source.now.limits c.args.symbols.now built.0 c.in_ok-rule.rule built.2
