pub mod AllowedLimits
pub mod Laws
pub mod Limiting
