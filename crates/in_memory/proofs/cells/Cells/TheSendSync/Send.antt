pub use Rattle.in_memory.proofs.Crossing.{cells_send as send}
