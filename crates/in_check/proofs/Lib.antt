pub mod Certified
pub mod Chain
pub mod Declared
pub mod OneAnswer
pub mod OnePass
pub mod Passes
pub mod Public
pub mod Reached
