-- The lemmas that proofs of other crates cite. They import this module alone, so all others may be renamed and cut anew.
pub use Rattle.in_reducer.proofs.Public.{pairs_aside_are_alike}
pub use Rattle.in_reusing.proofs.InPlace.{reuse_exists, reuse_is_a_step, reuse_is_one}
pub use Rattle.in_reusing.proofs.StepsInPlace.{steps_in_place_are_same, steps_in_place_are_steps}
pub use Rattle.in_reusing.proofs.Unmarked.{unmarked_lead_none_back, unmarked_pairs_of_sound_nets_are_apart}
