-- The first of several faults.
pub mod FirstFault
pub mod Least
