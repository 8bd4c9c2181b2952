-- Numbers of cells by class.
pub mod Classes
pub mod Counting
pub mod Most
