pub mod Depths
pub mod Fronts
mod LineByLine
mod Looking
mod Numbering
mod Remaining
pub mod Public
pub mod SameTexts
mod Texts
