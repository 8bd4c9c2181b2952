-- The templates of a program: the layout of each rule and of the net, and that there is one.
pub mod Accepted
pub mod Found
pub mod Laid
pub mod Made
pub mod Narrow
pub mod OneAnswer
pub mod OneTemplate
pub mod Sound
pub mod Taken
