use Rattle.in_compile.proofs.Placements.Back.{both_back}
use Rattle.in_compile.proofs.laws.placing_loses_none.Goals as goal

pub returns : goal.returns
returns c = both_back
