-- Class graphs, and their edges.
pub mod ClassEdges
pub mod ClassWalks
pub mod HubEdges
pub mod HubMembers
pub mod OneGraph
