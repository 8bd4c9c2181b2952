use Rattle.in_order.proofs.Gluing.Sound.{parts_are_sound}
use Rattle.in_order.proofs.laws.parts_are_sound.Goals as goal

pub returns : goal.returns
returns c = parts_are_sound
