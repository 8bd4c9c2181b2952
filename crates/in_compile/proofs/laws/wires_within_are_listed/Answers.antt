use Rattle.in_compile.proofs.Listed.WiresWithin.{wires_within}
use Rattle.in_compile.proofs.laws.wires_within_are_listed.Goals as goal

pub returns : goal.returns
returns c = λ t n m sig of is_net. wires_within t n m of sig is_net
