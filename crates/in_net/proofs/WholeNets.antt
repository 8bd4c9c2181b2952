-- The parts of a net are whole, and a text has one net.
pub mod Frees
pub mod OneNet
pub mod OneText
pub mod PlacesApart
pub mod Points
pub mod Ports
pub mod Rejoined
pub mod SameNet
pub mod Steps
pub mod Turned
pub mod Whole
pub mod WireAt
pub mod Within
