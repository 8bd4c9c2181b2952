use Rattle.in_order.proofs.Gluing.Sound.{sound_is_promised}
use Rattle.in_order.proofs.laws.sound_is_promised.Goals as goal

pub returns : goal.returns
returns c = sound_is_promised
