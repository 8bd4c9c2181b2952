use Rattle.in_compile.proofs.Placements.Settled.{settled}
use Rattle.in_compile.proofs.laws.settling_loses_none.Goals as goal

pub returns : goal.returns
returns c = settled
