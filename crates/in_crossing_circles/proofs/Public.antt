-- The lemmas that proofs of other crates cite. They import this module alone, so all others may be renamed and cut anew.
pub use Rattle.in_crossing_circles.proofs.StuckParts.{stuck_circle}
pub use Rattle.in_crossing_circles.proofs.Walks.{all_back, circle_back, turn}
