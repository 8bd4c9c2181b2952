use Rattle.std.proofs.Common.{rules}
use Rattle.in_compile.proofs.cells.Need.of_counts.Goals as goal

pub returns : goal.returns
returns c = λ d. (let k = c.by_class.ensures d in search rules)
