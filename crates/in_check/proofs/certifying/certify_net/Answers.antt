use Rattle.in_syntax.specs.declared.faults.Code.TheVariants.{E13}
use Rattle.in_open_nets_of_programs.specs.Opening.{Opens}
use Rattle.in_check.proofs.Certified.{certified}
use Rattle.in_check.proofs.certifying.certify_net.Goals as goal

pub returns : goal.returns
returns c = certified (Opens c.args.symbols.now c.args.net.now) E13 c.in_ok-shape.shape c.certify.result c.in_ok-shape.ensures c.certify.ensures
