pub mod Cycles
pub mod Public
pub mod StuckParts
pub mod Walks
