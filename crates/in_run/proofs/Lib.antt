pub mod Ended
pub mod StatesOfRuns
pub mod OneEnd
pub mod Public
pub mod SameOutcome
