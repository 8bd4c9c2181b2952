pub mod Active
pub mod ActiveWires
pub mod Arrays
pub mod OneLine
