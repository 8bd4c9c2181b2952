-- The lemmas that proofs of other crates cite. They import this module alone, so all others may be renamed and cut anew.
pub use Rattle.in_arena.proofs.Again.{begun_again}
pub use Rattle.in_arena.proofs.Arenas.{changed_same, live_inside, placed_here, state_inside, vacant_inside, word_live}
pub use Rattle.in_arena.proofs.Bags.{changed_twice, empty_is_of, lease_to_takes_one, leased_or, live_in, vacant_apart}
pub use Rattle.in_arena.proofs.RowStarts.{row_still}
pub use Rattle.in_arena.proofs.Rows.{stays}
pub use Rattle.in_arena.proofs.Changes.{begun_takes_one, changed_to_itself, counts_change, number_inside, others_stay}
pub use Rattle.in_arena.proofs.Classes.{class_few, class_of_number, class_within, counts_alike, each_amount, first_is, numbers_apart, of_first, same_class}
pub use Rattle.in_arena.proofs.FreeLists.{places_live}
pub use Rattle.in_arena.proofs.Lending.{set_twice}
