pub mod InPlace
pub mod StepsInPlace
pub mod Unmarked
