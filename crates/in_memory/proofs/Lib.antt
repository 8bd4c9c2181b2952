pub mod Crossing
pub mod Memory
pub mod Public
pub mod Rows
pub mod Sharing
pub mod Splitting
pub mod Walks
pub mod Writing
