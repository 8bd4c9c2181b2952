pub mod Only
pub mod Texts
