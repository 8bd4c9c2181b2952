use Rattle.in_check.proofs.Reached.FromText.{is_sound}
use Rattle.in_check.proofs.laws.accepted_is_sound.Goals as goal

pub returns : goal.returns
returns c = λ limits text p accepted. is_sound limits text p accepted
