use Rattle.std.proofs.Common.{sym, subst, Ok, Err}
use Rattle.std.specs.List.{AllByRecursion}
use Rattle.in_net.specs.Rules.{IsRuleOver}
use Rattle.in_check.specs.Checking.{ChecksPairs, TypePasses, TypesAll}
use Rattle.in_check.proofs.Chain.{then_refused}
use Rattle.in_check.proofs.Passes.{rules_over, rules_paired}
use Rattle.in_check.proofs.checking.check_types.Goals as goal

pub type_pass-requires-clause-rules : goal.type_pass-requires-clause-rules
type_pass-requires-clause-rules c =
    subst (AllByRecursion (IsRuleOver c.args.declared.symbols)) (sym c.as_slice-rules.ensures) (rules_over c.requires.source c.args.declared.symbols c.args.declared.rules c.requires.builds_rules)

pub check_pairs-requires-clause-pairs : goal.check_pairs-requires-clause-pairs
check_pairs-requires-clause-pairs c =
    let over = rules_over c.requires.source c.args.declared.symbols c.args.declared.rules c.requires.builds_rules in
    let typed = subst (λ rules. TypesAll c.args.declared.symbols rules c.args.declared.net (Ok tt)) c.as_slice-rules.ensures c.in-Ok.ensures in
    rules_paired c.args.declared.symbols c.args.declared.rules over typed.0

pub returns-in-Err : goal.returns-in-Err
returns-in-Err c =
    let t = c.args.declared.symbols in
    let rules = c.args.declared.rules in
    let n = c.args.declared.net in
    let fault = c.in-Err.mistyped in
    then_refused (TypePasses t rules n) (λ u. ChecksPairs t rules n) fault (subst (λ z. TypePasses t z n (Err fault)) c.as_slice-rules.ensures c.in-Err.ensures)
