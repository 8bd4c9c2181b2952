-- The lemmas that proofs of other crates cite. They import this module alone, so all others may be renamed and cut anew.
pub use Rattle.in_node_orders.proofs.Components.{AreComponents, In, first_of_components, link_within, splits_larger}
pub use Rattle.in_node_orders.proofs.OneOrder.{one_left}
