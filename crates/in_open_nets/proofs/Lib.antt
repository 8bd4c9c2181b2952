pub mod Built
pub mod Graphs
pub mod PartsOf
pub mod Passages
pub mod Public
pub mod Reached
pub mod Splits
