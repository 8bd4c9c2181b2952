use Rattle.in_syntax.specs.declared.text_limits.TextLimits.TheVariants.{Large}
use Rattle.in_c.specs.Answers.{IsRunSaid}
use Rattle.in_c.proofs.Given.{gives}
use Rattle.in_c.proofs.large.inet_run_large.Goals as goal

pub returns : goal.returns
returns c = gives (IsRunSaid Large c.args.limit c.args.cells c.args.text.now) _ _ _ _ _ c.ran.ensures.ok c.ran.ensures.err c.give.ensures.ok c.give.ensures.err
