pub mod Devices
pub mod Laws
pub mod Points
pub mod Texts
pub mod Terms
pub mod Writings
