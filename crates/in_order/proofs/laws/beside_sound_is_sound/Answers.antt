use Rattle.in_order.proofs.Parts.BesideSound.{beside_sound_is_sound}
use Rattle.in_order.proofs.laws.beside_sound_is_sound.Goals as goal

pub returns : goal.returns
returns c = beside_sound_is_sound
