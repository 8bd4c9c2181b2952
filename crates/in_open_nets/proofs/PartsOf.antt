-- Parts, as sets of nodes with their ports.
pub mod Absent
pub mod Counted
pub mod FirstMembers
pub mod Marks
pub mod Members
pub mod Places
pub mod Slots
pub mod Sums
