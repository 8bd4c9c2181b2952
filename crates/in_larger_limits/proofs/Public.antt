-- The lemmas that proofs of other crates cite. They import this module alone, so all others may be renamed and cut anew.
pub use Rattle.in_larger_limits.proofs.Checked.{checked_alike}
