use Rattle.in_order.proofs.Gluing.Sound.{sound_is_start}
use Rattle.in_order.proofs.laws.sound_is_start.Goals as goal

pub returns : goal.returns
returns c = sound_is_start
