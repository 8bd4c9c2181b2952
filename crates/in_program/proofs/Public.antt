-- The lemmas that proofs of other crates cite. They import this module alone, so all others may be renamed and cut anew.
pub use Rattle.in_program.proofs.OneRun.{need_kept, numbered, renumbered, runs_kept, start_kept, step_kept}
