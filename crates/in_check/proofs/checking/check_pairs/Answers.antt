use Rattle.std.proofs.Common.{sym, subst, Ok, Err, ◌<◌, ◌^◌, length}
use Rattle.in_cover.specs.Cover.{Covers}
use Rattle.in_check.specs.Checking.{ChecksRuleSteps}
use Rattle.in_check.proofs.Chain.{few_rules, then_refused, then_rest}
use Rattle.in_check.proofs.checking.check_pairs.Goals as goal

pub cover-requires-clause-few : goal.cover-requires-clause-few
cover-requires-clause-few c =
    subst (λ rules. length rules < 2 ^ 32) (sym c.as_slice.ensures) (few_rules c.requires.text.source c.args.declared.symbols c.args.declared.rules c.requires.text.tree c.requires.text.builds_rules)

pub returns-in-Ok : goal.returns-in-Ok
returns-in-Ok c =
    then_rest (Covers c.args.declared.symbols c.args.declared.rules) (ChecksRuleSteps c.args.declared.symbols c.args.declared.rules c.args.declared.net) c.in-Ok.numbers c.check_rule_steps.result
    (subst (λ rules. Covers c.args.declared.symbols rules (Ok c.in-Ok.numbers)) c.as_slice.ensures c.in-Ok.ensures) c.check_rule_steps.ensures

pub returns-in-Err : goal.returns-in-Err
returns-in-Err c =
    then_refused (Covers c.args.declared.symbols c.args.declared.rules) (ChecksRuleSteps c.args.declared.symbols c.args.declared.rules c.args.declared.net) c.in-Err.fault
    (subst (λ rules. Covers c.args.declared.symbols rules (Err c.in-Err.fault)) c.as_slice.ensures c.in-Err.ensures)
