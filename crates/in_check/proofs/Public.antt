-- The lemmas that proofs of other crates cite. They import this module alone, so all others may be renamed and cut anew.
pub use Rattle.in_check.proofs.Chain.{chain_of, program_of, then_refused, then_rest}
pub use Rattle.in_check.proofs.OneAnswer.{checked_once, never_both, programs_once}
pub use Rattle.in_check.proofs.Reached.FromText.{is_sound}
pub use Rattle.in_check.proofs.Reached.Holds.{Tops, higher}
pub use Rattle.in_check.proofs.Reached.HoldsEach.{few_tops, tops_of}
pub use Rattle.in_check.proofs.Reached.Kept.{each_promised, redex_of, sound_reached}
pub use Rattle.in_check.proofs.Reached.Moved.{after_new, agents_before, cond_map, name_after, path_map, renamed_steps}
pub use Rattle.in_check.proofs.Reached.PairRules.{acts_of, as_least, is_pair, one_step, rule_at}
pub use Rattle.in_check.proofs.Reached.Plain.{plain_is_sound, promised, renamed_self, starts, steps_under_names}
pub use Rattle.in_check.proofs.Reached.Renaming.{below_renamed, circle_renamed, live, net_renamed, one_point, symbol_kept}
pub use Rattle.in_check.proofs.Reached.Renaming.{typed_renamed, wire_from, wire_kept}
pub use Rattle.in_check.proofs.Reached.SameText.{nat_test, text_same}
pub use Rattle.in_check.proofs.Reached.Signs.{AreOpposed, opposed_in, stands_anywhere}
pub use Rattle.in_check.proofs.Reached.Unchanged.{unchanged}
pub use Rattle.in_check.proofs.Reached.Moved
