use Rattle.std.proofs.Common.{rules}
use Rattle.in_compile.proofs.cells.need_of_net.Goals as goal

pub returns : goal.returns
returns c = λ d. (let k = c.by_class.ensures d in search rules)
