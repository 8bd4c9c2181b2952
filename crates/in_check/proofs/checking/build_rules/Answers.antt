use Rattle.std.proofs.Common.{◌∷◌, [], length, length-append, Ok, sym, ◌∙◌, ap, subst, arith}
use Rattle.std.proofs.lemmas.Result.{err_from_is_err_and}
use Rattle.in_net.specs.Rules.{BuildsRule}
use Rattle.in_check.proofs.Passes.{at_rule, one_more}
use Rattle.in_check.proofs.checking.build_rules.Goals as goal

pub returns-in_err-rule : goal.returns-in_err-rule
returns-in_err-rule c =
    let p = err_from_is_err_and c.from_residual-in_err-rule.result c.from_residual-in_err-rule.ensures.1 in
    rw (p.1, p.2) (at_rule c.args.source.now c.args.symbols.now c.loop-index.rules c.loop-index.index c.in_err-rule.field-0.0 c.loop-index.invariant.count c.loop-index.invariant.each c.in_err-rule.ensures)

pub loop-index-preserved : goal.loop-index-preserved
loop-index-preserved c =
    let count = c.loop-index.invariant.count in
    record {
      count = omega (arith, count, ap length c.in_ok-push.ensures.ok ∙ length-append c.loop-index.rules (c.in_ok-rule.rule ∷ []));
      each =
          one_more c.args.source.now c.args.symbols.now c.loop-index.rules c.push.new.self c.in_ok-rule.rule c.in_ok-push.ensures.ok c.loop-index.invariant.each
          (subst (λ k. BuildsRule c.args.source.now c.args.symbols.now k (Ok c.in_ok-rule.rule)) (sym count) c.in_ok-rule.ensures);
    }
