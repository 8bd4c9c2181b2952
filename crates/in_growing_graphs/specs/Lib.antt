pub mod Blobs
pub mod Laws
