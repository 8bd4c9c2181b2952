pub mod Advancing
pub mod Laws
pub mod Outcomes
pub mod Stops
