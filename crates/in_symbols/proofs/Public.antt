-- The lemmas that proofs of other crates cite. They import this module alone, so all others may be renamed and cut anew.
pub use Rattle.in_symbols.proofs.Absent.{absent}
pub use Rattle.in_symbols.proofs.Heads.{heads_out}
pub use Rattle.in_symbols.proofs.Numbers.{same_symbol}
pub use Rattle.in_symbols.proofs.OneTables.{any_among, at_equations, at_free, one_tables}
pub use Rattle.in_symbols.proofs.Shapes.{are_shapes, length-classes_from}
pub use Rattle.in_symbols.proofs.Tabled.{refusal_none, refused_none}
