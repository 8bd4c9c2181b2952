-- Names are joined, wire by wire.
pub mod Chains
pub mod ClosedWires
pub mod Joined
pub mod Joins
pub mod Linked
pub mod Links
pub mod Loops
pub mod Merged
pub mod Naming
pub mod OneJoint
pub mod Outs
pub mod Single
pub mod Sound
pub mod TextWires
pub mod Ways
