pub mod Changes
pub mod Ends
pub mod First
