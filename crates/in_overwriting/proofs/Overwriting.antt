pub mod BySign
pub mod Flagged
pub mod InTurn
pub mod MadeByWires
pub mod OneByOne
pub mod Own
pub mod Sides
pub mod Steps
