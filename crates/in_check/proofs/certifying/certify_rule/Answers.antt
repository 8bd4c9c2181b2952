use Rattle.in_syntax.specs.declared.faults.Code.TheVariants.{E12}
use Rattle.in_open_nets_of_programs.specs.OpeningRules.{OpensRule}
use Rattle.in_check.proofs.Certified.{certified}
use Rattle.in_check.proofs.certifying.certify_rule.Goals as goal

pub returns : goal.returns
returns c = certified (OpensRule c.args.symbols.now c.args.rule.now) E12 c.in_ok-shape.shape c.certify.result c.in_ok-shape.ensures c.certify.ensures
