pub mod Given
pub mod Laws
pub mod Verifying
