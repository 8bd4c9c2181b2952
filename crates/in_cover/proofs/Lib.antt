pub mod Completed
pub mod FirstFault
pub mod Numbered
pub mod OneTable
pub mod Public
pub mod Written
