use Rattle.in_order.proofs.Gluing.Names.{runs_keep_sound}
use Rattle.in_order.proofs.laws.runs_keep_sound.Goals as goal

pub returns : goal.returns
returns c = runs_keep_sound
