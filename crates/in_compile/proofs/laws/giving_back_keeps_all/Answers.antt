use Rattle.in_compile.proofs.Placements.Back.{counted_back}
use Rattle.in_compile.proofs.laws.giving_back_keeps_all.Goals as goal

pub returns : goal.returns
returns c = counted_back
