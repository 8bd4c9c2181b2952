pub mod Public
pub mod Walks
pub mod Forests
pub mod Widening
pub mod Chains
pub mod Growth
pub mod Marks
