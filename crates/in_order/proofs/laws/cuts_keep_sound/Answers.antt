use Rattle.in_order.proofs.Gluing.SoundCuts.{cuts_keep_sound}
use Rattle.in_order.proofs.laws.cuts_keep_sound.Goals as goal

pub returns : goal.returns
returns c = cuts_keep_sound
