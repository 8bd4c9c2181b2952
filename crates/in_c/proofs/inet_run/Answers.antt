use Rattle.in_syntax.specs.declared.text_limits.TextLimits.TheVariants.{Usual}
use Rattle.in_c.specs.Answers.{IsRunSaid}
use Rattle.in_c.proofs.Given.{gives}
use Rattle.in_c.proofs.inet_run.Goals as goal

pub returns : goal.returns
returns c = gives (IsRunSaid Usual c.args.limit c.args.cells c.args.text.now) _ _ _ _ _ c.ran.ensures.ok c.ran.ensures.err c.give.ensures.ok c.give.ensures.err
