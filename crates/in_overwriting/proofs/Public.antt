-- The lemmas that proofs of other crates cite. They import this module alone, so all others may be renamed and cut anew.
pub use Rattle.in_overwriting.proofs.Overwriting.BySign.{free_type, output_stands_first, output_stands_first_within, sides_have_types, sides_tell_the_pair}
pub use Rattle.in_overwriting.proofs.Overwriting.Flagged.{no_wire_between, one_class_of_one_agent, unmarked_pairs_are_apart}
pub use Rattle.in_overwriting.proofs.Overwriting.InTurn.{stored_are_overwritten, wires_in_two_parts}
pub use Rattle.in_overwriting.proofs.Overwriting.MadeByWires.{pairs_are_made_by_wires, wires_make_one, wires_make_all_pairs, wires_make_pairs_in_turn}
pub use Rattle.in_overwriting.proofs.Overwriting.OneByOne.{all_made, each_made, in_order}
pub use Rattle.in_overwriting.proofs.Overwriting.Own.{wires_make_own_in_turn}
pub use Rattle.in_overwriting.proofs.Overwriting.Sides.{side_once, sides_are_apart}
pub use Rattle.in_overwriting.proofs.Overwriting.Steps.{overwritten_exists, overwritten_is_one, overwritten_leads_none_back, steps_are_overwritten}
