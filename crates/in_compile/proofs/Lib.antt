pub mod Compiled
pub mod Listed
pub mod Needs
pub mod Placements
pub mod Public
