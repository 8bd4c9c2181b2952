pub mod InPlace
pub mod Public
pub mod StepsInPlace
pub mod Unmarked
