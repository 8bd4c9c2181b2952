pub mod Laws
pub mod Typed
pub mod TypedNets
