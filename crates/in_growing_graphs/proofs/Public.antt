-- The lemmas that proofs of other crates cite. They import this module alone, so all others may be renamed and cut anew.
pub use Rattle.in_growing_graphs.proofs.Bridges.{decide}
pub use Rattle.in_growing_graphs.proofs.Growing.{goes_map, goes_on, linked, merged, no_edge}
pub use Rattle.in_growing_graphs.proofs.Walks.{ends_cases, ends_kept, two_ways, walk_map}
