pub mod Named
pub mod VerifyEnds
pub mod VerifyGraft
pub mod VerifyMade
pub mod VerifyRun
pub mod VerifyTaken
