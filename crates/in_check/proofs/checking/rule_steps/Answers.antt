use Rattle.std.proofs.Common.{sym, subst}
use Rattle.std.specs.List.{AllByRecursion}
use Rattle.in_net.specs.Rules.{IsRuleOver}
use Rattle.in_open_nets_of_programs.specs.OpeningRules.{IsRuleWhole}
use Rattle.in_open_nets_of_programs.proofs.Public.{tables_numbered}
use Rattle.in_check.proofs.Passes.{rules_over}
use Rattle.in_check.proofs.Certified.{rules_whole}
use Rattle.in_check.proofs.checking.rule_steps.Goals as goal

pub certify_rules-requires-clause-over : goal.certify_rules-requires-clause-over
certify_rules-requires-clause-over c =
    subst (AllByRecursion (IsRuleOver c.args.declared.now.symbols)) (sym c.as_slice.ensures) (rules_over c.requires.source c.args.declared.now.symbols c.args.declared.now.rules c.requires.builds_rules)

pub certify_rules-requires-clause-whole : goal.certify_rules-requires-clause-whole
certify_rules-requires-clause-whole c =
    subst (AllByRecursion (IsRuleWhole c.args.declared.now.symbols)) (sym c.as_slice.ensures) (rules_whole c.requires.source c.args.declared.now.symbols c.args.declared.now.rules c.requires.builds_rules)

pub certify_rules-requires-clause-numbered : goal.certify_rules-requires-clause-numbered
certify_rules-requires-clause-numbered c = tables_numbered c.requires.source c.args.declared.now.symbols c.requires.tabulates.0
