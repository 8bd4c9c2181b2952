use Rattle.in_c.proofs.AnsweredOnce.{verdicts_are_one as law}
use Rattle.in_c.proofs.laws.verdicts_are_one.Goals as goal

pub returns : goal.returns
returns c = law c.steps_are_judged_once.ensures
