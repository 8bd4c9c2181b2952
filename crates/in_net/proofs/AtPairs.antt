-- Active pairs, and the boundary ends of the right members that replace them.
pub mod ActivePairs
pub mod BoundaryTypes
pub mod PairOfWire
pub mod PairPorts
