pub mod Graphs
pub mod Lists
