use Rattle.in_order.proofs.Parts.CutOnce.{cut_once_is_sound}
use Rattle.in_order.proofs.laws.cut_once_is_sound.Goals as goal

pub returns : goal.returns
returns c = cut_once_is_sound
