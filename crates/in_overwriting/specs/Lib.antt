pub mod BySign
pub mod Flag
pub mod InTurn
pub mod MadeByWires
pub mod Overwriting
