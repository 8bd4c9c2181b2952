use Rattle.in_order.proofs.Parts.CutDown.{cut_down_is_sound}
use Rattle.in_order.proofs.laws.cut_down_is_sound.Goals as goal

pub returns : goal.returns
returns c = cut_down_is_sound
