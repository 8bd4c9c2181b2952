-- Wires that are cut and joined again.
pub mod CutOff
pub mod Reduced
pub mod Rejoined
pub mod Undone
