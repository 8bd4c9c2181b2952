pub use Rattle.in_memory.proofs.Crossing.{cells_sync as sync}
