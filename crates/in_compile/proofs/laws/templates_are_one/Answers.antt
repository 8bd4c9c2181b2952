use Rattle.in_compile.proofs.Compiled.OneTemplate.{one_template}
use Rattle.in_compile.proofs.laws.templates_are_one.Goals as goal

pub returns : goal.returns
returns c = one_template
