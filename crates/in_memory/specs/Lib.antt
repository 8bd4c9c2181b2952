pub mod Lends
pub mod Ownership
pub mod Places
pub mod Splitting
