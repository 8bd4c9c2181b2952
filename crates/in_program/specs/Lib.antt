pub mod Acting
pub mod Devices
pub mod Laws
pub mod Lines
pub mod Steps
