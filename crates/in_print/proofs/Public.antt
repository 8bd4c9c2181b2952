-- The lemmas that proofs of other crates cite. They import this module alone, so all others may be renamed and cut anew.
pub use Rattle.in_print.proofs.Fronts.{append_known-twice}
pub use Rattle.in_print.proofs.SameTexts.{same_texts}
