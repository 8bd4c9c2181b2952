pub mod OneLimits
pub mod Public
