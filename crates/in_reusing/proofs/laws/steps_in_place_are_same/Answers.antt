use Rattle.in_reusing.proofs.StepsInPlace.{steps_in_place_are_same}
use Rattle.in_reusing.proofs.laws.steps_in_place_are_same.Goals as goal

pub returns : goal.returns
returns c = steps_in_place_are_same
