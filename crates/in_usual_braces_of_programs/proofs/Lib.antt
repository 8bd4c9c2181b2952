pub mod Members
pub mod OfNets
pub mod OfRules
pub mod Places
pub mod Signed
