pub mod MachineLaws
pub mod Machines
pub mod Phases
pub mod Starts
pub mod Taking
pub mod Texts
pub mod Together
