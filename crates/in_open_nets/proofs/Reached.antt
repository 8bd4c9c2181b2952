-- The nodes that are reached in a part.
pub mod Links
pub mod OnePiece
pub mod Reaching
