use Rattle.std.proofs.Common.{refl}
use Rattle.in_check.specs.Systems.{system_of}
use Rattle.in_check.proofs.Chain.{certified_each, few_rules_of}
use Rattle.in_check.proofs.Reached.FromText.{is_sound}
use Rattle.in_check.proofs.Reached.Kept.{as_promised}
use Rattle.in_check.proofs.checking.checked_text.Goals as goal

pub invariant_of-result : goal.invariant_of-result
invariant_of-result c =
    let accepted = c.in_ok-passed.ensures.checked in
    (few_rules_of c.args.limits c.args.text.now c.in_ok-passed.passed.program (c.in_ok-passed.passed, refl, accepted), certified_each c.args.limits c.args.text.now c.in_ok-passed.passed accepted, (c.args.limits, c.args.text.now, accepted))

pub returns-clause-promised : goal.returns-clause-promised
returns-clause-promised c = as_promised (system_of c.in_ok-passed.passed.program) (is_sound c.args.limits c.args.text.now c.in_ok-passed.passed.program (c.in_ok-passed.passed, refl, c.in_ok-passed.ensures.checked))
