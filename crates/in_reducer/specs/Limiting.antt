-- The cells that a reducer may have. This project's own choice.
pub use Rattle.in_limits.specs.Limiting.{AreAllowed, least_cells, most_cells}
