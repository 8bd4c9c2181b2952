use Rattle.in_order.proofs.Gluing.Names.{parts_are_sound_by_names}
use Rattle.in_order.proofs.laws.parts_are_sound_by_names.Goals as goal

pub returns : goal.returns
returns c = parts_are_sound_by_names
