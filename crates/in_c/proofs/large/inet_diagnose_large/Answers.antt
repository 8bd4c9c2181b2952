use Rattle.std.proofs.Common.{Ok}
use Rattle.std.specs.declared.alloc.AllocError.{AllocError}
use Rattle.in_syntax.specs.declared.text_limits.TextLimits.TheVariants.{Large}
use Rattle.in_c.specs.Answers.{IsDiagnosis}
use Rattle.in_c.proofs.Given.{gives}
use Rattle.in_c.proofs.large.inet_diagnose_large.Goals as goal

pub returns : goal.returns
returns c = gives {E = AllocError} (IsDiagnosis Large c.args.text.now) (Ok c.told.result) _ _ _ _ c.told.ensures tt c.give.ensures.ok tt
