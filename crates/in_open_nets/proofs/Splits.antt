-- The nodes that split a part, and stuck parts.
pub mod EachSplits
pub mod OkValues
pub mod OneAnswer
pub mod Search
pub mod SplittingPorts
pub mod StuckNodes
