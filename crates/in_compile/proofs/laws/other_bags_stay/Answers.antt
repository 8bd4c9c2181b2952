use Rattle.in_compile.proofs.Placements.Back.{other_stays}
use Rattle.in_compile.proofs.laws.other_bags_stay.Goals as goal

pub returns : goal.returns
returns c = other_stays
