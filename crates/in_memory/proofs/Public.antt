-- The lemmas that proofs of other crates cite. They import this module alone, so all others may be renamed and cut anew.
pub use Rattle.in_memory.proofs.Rows.{filled_inside, length-together}
pub use Rattle.in_memory.proofs.Splitting.{either_none, filled_in_part, get_or-those_of, get_or-together, here_in_part, length-those_of}
pub use Rattle.in_memory.proofs.Writing.{all_here, filled_here, filled_stays, filled_there, here_inside, here_stays, none_is_some}
