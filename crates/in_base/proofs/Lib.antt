pub mod Among
pub mod Circuits
pub mod Each
pub mod Options
pub mod Places
