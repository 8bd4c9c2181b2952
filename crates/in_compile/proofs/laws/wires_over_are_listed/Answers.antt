use Rattle.in_compile.proofs.Listed.WiresOver.{over_ends}
use Rattle.in_compile.proofs.laws.wires_over_are_listed.Goals as goal

pub returns : goal.returns
returns c = over_ends
