use Rattle.in_compile.proofs.Placements.OneRegained.{regained_once}
use Rattle.in_compile.proofs.laws.regains_are_one.Goals as goal

pub returns : goal.returns
returns c = regained_once
