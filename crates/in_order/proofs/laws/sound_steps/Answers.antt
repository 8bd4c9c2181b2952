use Rattle.in_order.proofs.Gluing.Sound.{sound_steps}
use Rattle.in_order.proofs.laws.sound_steps.Goals as goal

pub returns : goal.returns
returns c = sound_steps
