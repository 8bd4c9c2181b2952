-- The tree, in its text.
pub mod Ordered
pub mod Sized
pub mod SourcePlaces
pub mod Terms
pub mod Uses
pub mod Walks
