use Rattle.in_compile.proofs.Compiled.OneAnswer.{one_largest}
use Rattle.in_compile.proofs.laws.largest_needs_are_one.Goals as goal

pub returns : goal.returns
returns c = one_largest
