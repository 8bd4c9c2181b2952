pub mod CommandLine
pub mod Asking
pub mod Laws
