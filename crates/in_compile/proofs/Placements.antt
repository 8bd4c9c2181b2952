-- Members placed in cells of a stock, and the cells that go back.
pub mod AgentByAgent
pub mod Back
pub mod EndByEnd
pub mod Held
pub mod InTurn
pub mod OnePut
pub mod OneRegained
pub mod Put
pub mod Settled
pub mod Standing
pub mod Stocked
