pub mod Names
pub mod PartRuns
pub mod Reducible
pub mod Sound
pub mod SoundCuts
