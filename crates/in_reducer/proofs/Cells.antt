-- The net that the cells show, and the number of cells.
pub mod AsMany
pub mod AtRest
pub mod Counted
pub mod LiveCounted
pub mod Looked
pub mod Short
pub mod Shown
