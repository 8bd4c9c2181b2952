-- The open nets that the constructions build.
pub mod Balance
pub mod Both
pub mod Forest
pub mod Grow
pub mod NoCircle
pub mod Sound
pub mod Whole
