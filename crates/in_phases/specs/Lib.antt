pub mod Branches
pub mod Marks
pub mod Phases
pub mod Rooms
