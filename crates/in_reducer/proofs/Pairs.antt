-- Queues of active pairs.
pub mod QueueBeside
pub mod QueueSplit
pub mod Queued
pub mod Queues
pub mod Reordered
pub mod Requeued
