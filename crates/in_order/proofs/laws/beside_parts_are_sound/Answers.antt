use Rattle.in_order.proofs.Parts.BesideSound.{beside_parts_are_sound}
use Rattle.in_order.proofs.laws.beside_parts_are_sound.Goals as goal

pub returns : goal.returns
returns c = beside_parts_are_sound
