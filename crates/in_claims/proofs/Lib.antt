pub mod Apart
pub mod Keeping
pub mod Seated
pub mod Sums
pub mod Views
