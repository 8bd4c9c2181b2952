pub mod Laws
pub mod Maps
pub mod Opening
pub mod OpeningRules
