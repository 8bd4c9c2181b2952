-- From tokens to a program, and the expected tokens.
pub mod Closing
pub mod Complete
pub mod Continues
pub mod OneExpected
pub mod Outcomes
pub mod Parsed
pub mod Paths
pub mod Prefixes
pub mod Separated
pub mod Sound
pub mod ThenOne
pub mod WholeTexts
