pub mod Data
pub mod Laws
pub mod Programs
pub mod Remedies
