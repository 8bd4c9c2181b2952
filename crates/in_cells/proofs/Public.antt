-- The lemmas that proofs of other crates cite. They import this module alone, so all others may be renamed and cut anew.
pub use Rattle.in_cells.proofs.AllShown.{place_within, shown_all, shown_is_step, take_at}
pub use Rattle.in_cells.proofs.Kept.{keep_on, keeps, places_kept, word_kept}
pub use Rattle.in_cells.proofs.OnTheWay.{live_after, symbols_kept}
pub use Rattle.in_cells.proofs.OneJoint.{AreAtSides, shown_next, sides_at}
pub use Rattle.in_cells.proofs.Started.{end_point as started_end_point, set_has_symbols, set_is_ready}
pub use Rattle.in_cells.proofs.Writes.{end_point as writes_end_point, exchange_keeps, place_stays, point_end, stands_one, stands_still}
pub use Rattle.in_cells.proofs.Writes.{stands_two}
pub use Rattle.in_cells.proofs.CutInCells.{stands_some}
pub use Rattle.in_cells.proofs.JoinedInCells.{end_there, mapped_some}
pub use Rattle.in_cells.proofs.Beside.{copies_stand_beside, ends_there, length-ends_of, past_first}
pub use Rattle.in_cells.proofs.Numbered.{leased_after, leased_before, led_to, numbered_anew, numbered_classed, numbered_leased_stays, numbered_places, numbered_taken_out, numbered_was_leased, numbered_word, state_same}
pub use Rattle.in_cells.proofs.Shown.{NamedOr, all_are_closed, named_or, not_leased, word_moved}
pub use Rattle.in_cells.proofs.Split.{live_has_word, part_stands_beside, split_are_nets}
