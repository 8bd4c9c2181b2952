pub mod Interactions
pub mod Public
pub mod Queues
pub mod Stepping
