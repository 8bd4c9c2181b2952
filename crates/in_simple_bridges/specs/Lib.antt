pub mod Walks
pub mod Trees
pub mod Spans
pub mod Stars
pub mod Growing
pub mod Cycles
