-- The start of a reducer.
pub mod Accepted
pub mod Begun
pub mod StartKept
pub mod StartNet
pub mod Started
