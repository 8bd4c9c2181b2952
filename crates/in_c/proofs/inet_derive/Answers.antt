use Rattle.std.proofs.Common.{inr, refl}
use Rattle.in_syntax.specs.declared.text_limits.TextLimits.TheVariants.{Usual}
use Rattle.in_command_line.specs.declared.action.Action.TheVariants.{Derive}
use Rattle.in_c.specs.Answers.{IsSaid}
use Rattle.in_c.proofs.Given.{anyway, gives}
use Rattle.in_c.proofs.inet_derive.Goals as goal

pub returns : goal.returns
returns c = gives (IsSaid Usual Derive c.args.text.now) _ _ _ _ _ c.reported.ensures (anyway _ _ (inr (refl, refl))) c.give.ensures.ok c.give.ensures.err
