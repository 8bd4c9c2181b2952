-- The lemmas that proofs of other crates cite. They import this module alone, so all others may be renamed and cut anew.
pub use Rattle.in_rounds.proofs.Filling.{Change, change, filled_has_all}
pub use Rattle.in_rounds.proofs.Filling.Change.{Lends, Stays}
pub use Rattle.in_rounds.proofs.Holding.{are_bags_by, bags_are_of_one, beside_are_bags, each_of, end_are_bags, fewer_or_same}
pub use Rattle.in_rounds.proofs.Holding.{first_are_bags, first_is_bag, front_are_bags, holders-append, holders-cons, holders-first, in_one}
pub use Rattle.in_rounds.proofs.Holding.{leased_of, left_are_bags, left_have_all, no_bags, none_leased_by, none_returned, of_one_by}
pub use Rattle.in_rounds.proofs.Holding.{one_less, one_returned, out_of_one, rest_are_bags, returns_beside, returns_both, returns_by}
pub use Rattle.in_rounds.proofs.Holding.{same_have_all}
pub use Rattle.in_rounds.proofs.Keeping.{put_all, put_holders, take_all, take_holders, taken_have_all}
pub use Rattle.in_rounds.proofs.Placing.{holds_any, one_of_one, placed_count, stays_of_one, template_in}
pub use Rattle.in_rounds.proofs.Gathered.{lent_have_all}
