use Rattle.in_compile.proofs.Compiled.OneAnswer.{alike}
use Rattle.in_compile.proofs.laws.templates_of_are_one.Goals as goal

pub returns : goal.returns
returns c = alike
