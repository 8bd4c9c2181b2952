pub mod Apart
pub mod FirstPairs
pub mod FirstQueue
pub mod NewPairs
pub mod OneMade
pub mod OwnPairs
