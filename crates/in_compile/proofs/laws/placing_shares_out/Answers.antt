use Rattle.in_compile.proofs.Placements.Back.{shared_out}
use Rattle.in_compile.proofs.laws.placing_shares_out.Goals as goal

pub returns : goal.returns
returns c = shared_out
