use Rattle.std.proofs.Common.{inr, refl}
use Rattle.in_syntax.specs.declared.text_limits.TextLimits.TheVariants.{Usual}
use Rattle.in_c.specs.Answers.{IsExported}
use Rattle.in_c.proofs.Given.{anyway, gives}
use Rattle.in_c.proofs.inet_export.Goals as goal

pub returns : goal.returns
returns c = gives (IsExported Usual c.args.text.now) _ _ _ _ _ c.exported.ensures (anyway _ _ (inr (inr (refl, refl)))) c.give.ensures.ok c.give.ensures.err
