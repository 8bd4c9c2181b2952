use Rattle.in_compile.specs.Templates.{agents_of}
use Rattle.in_compile.proofs.Compiled.OneAnswer.{one_most}
use Rattle.in_compile.proofs.laws.most_agents_are_one.Goals as goal

pub returns : goal.returns
returns c = λ ts n m. one_most ts agents_of n m
