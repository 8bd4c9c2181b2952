-- Reducers that differ in the numbers of their agents alone.
pub mod Aside
pub mod Before
pub mod Between
pub mod OfSame
pub mod Renamed
pub mod SameKind
pub mod SameStep
