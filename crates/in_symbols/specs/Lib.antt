pub mod Faults
pub mod Laws
pub mod Names
pub mod Searching
pub mod Tables
