-- The lemmas that proofs of other crates cite. They import this module alone, so all others may be renamed and cut anew.
pub use Rattle.in_usual_braces.proofs.Circles.{begins, ends}
pub use Rattle.in_usual_braces.proofs.Mapped.{Keeps, circle_inside, circle_moved}
