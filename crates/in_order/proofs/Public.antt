-- The lemmas that proofs of other crates cite. They import this module alone, so all others may be renamed and cut anew.
pub use Rattle.in_order.proofs.Orders.EndAlike.{runs_are_joined}
pub use Rattle.in_order.proofs.Orders.Names.{are_new, composed, new_names}
pub use Rattle.in_order.proofs.Orders.OneEnd.{programs_have_one_end}
pub use Rattle.in_order.proofs.Gluing.Names.{cut_run_and_glued, parts_are_sound_by_names, runs_keep_sound}
pub use Rattle.in_order.proofs.Gluing.Reducible.{plain_is_reducible, reducible_as_promised, reducible_pairs_have_their_rule}
pub use Rattle.in_order.proofs.Gluing.Reducible.{reducible_steps_under_names}
pub use Rattle.in_order.proofs.Gluing.Sound.{sound_is_start, sound_steps, with_start}
pub use Rattle.in_order.proofs.Gluing.SoundCuts.{cuts_keep_sound}
pub use Rattle.in_order.proofs.Parts.BesideSound.{beside_parts_are_sound, beside_sound_is_sound}
pub use Rattle.in_order.proofs.Parts.CutOnce.{beside_leads, cut_leads_are_joined, cut_once_is_sound}
pub use Rattle.in_order.proofs.Parts.Leading.{leads_go_on, no_wire}
