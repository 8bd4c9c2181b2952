-- The refusals, and the properties of a program without any.
pub mod Counts
pub mod FewAgents
pub mod FirstFault
pub mod GoodNets
pub mod GoodRules
pub mod Miscounted
pub mod Miscounts
pub mod Misfits
pub mod NumberTests
pub mod Standing
