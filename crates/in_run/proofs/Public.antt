-- The lemmas that proofs of other crates cite. They import this module alone, so all others may be renamed and cut anew.
pub use Rattle.in_run.proofs.OneEnd.{normal_outcomes_are_one}
pub use Rattle.in_run.proofs.SameOutcome.{same_outcome}
