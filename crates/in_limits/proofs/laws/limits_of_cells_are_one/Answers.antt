use Rattle.in_limits.proofs.OneLimits.{limits_of_cells_are_one as law}
use Rattle.in_limits.proofs.laws.limits_of_cells_are_one.Goals as goal

pub returns : goal.returns
returns c = law
