pub mod BeginsAlike
pub mod Told
