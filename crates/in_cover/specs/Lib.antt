pub mod Cover
pub mod Covering
pub mod Laws
pub mod Storing
pub mod Table
