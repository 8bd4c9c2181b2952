pub mod Answers
pub mod Choosing
pub mod Giving
pub mod Laws
pub mod Numbers
