pub mod AtPairs
pub mod Public
pub mod Refusals
pub mod Texts
pub mod WholeNets
pub mod Wiring
