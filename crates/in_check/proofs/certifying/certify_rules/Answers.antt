use Rattle.std.proofs.Common.{◌∷◌, [], length, length-append, slice_get, Some, sym, ◌∙◌, ap, arith}
use Rattle.std.proofs.lemmas.Option.{slice_get-get_or}
use Rattle.std.proofs.lemmas.Result.{err_from_is_err_and}
use Rattle.in_check.proofs.Certified.{at_stuck_rule, one_more_certified}
use Rattle.in_check.proofs.certifying.certify_rules.Goals as goal

pub returns-in_err-certificate : goal.returns-in_err-certificate
returns-in_err-certificate c =
    let p = err_from_is_err_and c.from_residual-in_err-certificate.result c.from_residual-in_err-certificate.ensures.1 in
    rw (p.1, p.2)
    (at_stuck_rule c.args.symbols.now c.args.rules.now c.loop-rule.certificates c.loop-rule.rule-index c.rule-item.result c.in_err-certificate.field-0.0
    (slice_get-get_or c.args.rules.now c.loop-rule.rule-index c.rule-item.result c.loop-rule-test.true ∙ ap Some (sym c.rule-item.is))
    c.loop-rule.invariant.count c.loop-rule.invariant.each c.in_err-certificate.ensures)

pub loop-rule-preserved : goal.loop-rule-preserved
loop-rule-preserved c =
    let count = c.loop-rule.invariant.count in
    record {
      count = omega (arith, count, ap length c.in_ok-push.ensures.ok ∙ length-append c.loop-rule.certificates (c.in_ok-certificate.certificate ∷ []));
      each =
          one_more_certified c.args.symbols.now c.args.rules.now c.loop-rule.certificates c.push.new.self c.rule-item.result c.in_ok-certificate.certificate c.in_ok-push.ensures.ok
          (ap (slice_get c.args.rules.now) count ∙ slice_get-get_or c.args.rules.now c.loop-rule.rule-index c.rule-item.result c.loop-rule-test.true ∙ ap Some (sym c.rule-item.is))
          c.loop-rule.invariant.each c.in_ok-certificate.ensures;
    }
