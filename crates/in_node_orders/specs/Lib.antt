pub mod Arrivals
pub mod Growing
pub mod Heads
pub mod Laws
pub mod Left
pub mod Orders
pub mod Turns
