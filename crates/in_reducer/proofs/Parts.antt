-- Parts that are split off and glued on.
pub mod Glued
pub mod GluedOn
pub mod SplitAlike
pub mod SplitBefore
pub mod SplitCells
pub mod SplitKept
pub mod SplitNets
pub mod SplitOff
pub mod Together
pub mod Turns
pub mod TwoEnds
