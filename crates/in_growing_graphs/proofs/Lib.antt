pub mod Bridges
pub mod Growing
pub mod Public
pub mod Walks
