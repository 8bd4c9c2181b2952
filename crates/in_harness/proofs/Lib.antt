pub mod LedTo
pub mod Putting
