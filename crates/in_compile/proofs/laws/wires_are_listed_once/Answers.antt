use Rattle.in_compile.proofs.Listed.Once.{listed_once}
use Rattle.in_compile.proofs.laws.wires_are_listed_once.Goals as goal

pub returns : goal.returns
returns c = λ t n m sig of is_net. listed_once t n m of sig is_net
