pub mod Alone
pub mod BuiltRules
pub mod Shared
