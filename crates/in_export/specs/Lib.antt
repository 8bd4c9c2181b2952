pub mod Exporting
pub mod Json
pub mod Parts
pub mod Programs
pub mod Queues
