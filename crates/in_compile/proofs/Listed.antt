-- The lists of wires that a template keeps: how they are made, and that they are the right member's wires.
pub mod Filtered
pub mod Once
pub mod Pairs
pub mod Partners
pub mod Slots
pub mod WiresOver
pub mod WiresWithin
