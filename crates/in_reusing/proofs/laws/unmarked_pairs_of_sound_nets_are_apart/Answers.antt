use Rattle.in_reusing.proofs.Unmarked.{unmarked_pairs_of_sound_nets_are_apart}
use Rattle.in_reusing.proofs.laws.unmarked_pairs_of_sound_nets_are_apart.Goals as goal

pub returns : goal.returns
returns c = unmarked_pairs_of_sound_nets_are_apart
