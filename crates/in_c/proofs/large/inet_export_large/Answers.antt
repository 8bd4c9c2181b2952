use Rattle.std.proofs.Common.{inr, refl}
use Rattle.in_syntax.specs.declared.text_limits.TextLimits.TheVariants.{Large}
use Rattle.in_c.specs.Answers.{IsExported}
use Rattle.in_c.proofs.Given.{anyway, gives}
use Rattle.in_c.proofs.large.inet_export_large.Goals as goal

pub returns : goal.returns
returns c = gives (IsExported Large c.args.text.now) _ _ _ _ _ c.exported.ensures (anyway _ _ (inr (inr (refl, refl)))) c.give.ensures.ok c.give.ensures.err
