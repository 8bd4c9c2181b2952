-- The lemmas that proofs of other crates cite. They import this module alone, so all others may be renamed and cut anew.
pub use Rattle.in_simple_bridges.proofs.Forests.{joins_same, other_back, pair_same}
pub use Rattle.in_simple_bridges.proofs.Growth.{at_last}
pub use Rattle.in_simple_bridges.proofs.Walks.{walk_turned}
