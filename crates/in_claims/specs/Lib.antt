pub mod Laws
pub mod Rule
pub mod Seats
pub mod Sitting
