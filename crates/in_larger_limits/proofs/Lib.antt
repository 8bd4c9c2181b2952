pub mod Agents
pub mod Checked
pub mod Faults
pub mod Parsed
pub mod Public
pub mod Spellings
