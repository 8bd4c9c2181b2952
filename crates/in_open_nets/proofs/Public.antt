-- The lemmas that proofs of other crates cite. They import this module alone, so all others may be renamed and cut anew.
pub use Rattle.in_open_nets.proofs.Built.Balance.{wire_turn, wire_within}
pub use Rattle.in_open_nets.proofs.Built.Both.{all_one, derivable_no_circle, derivable_splits, one_first_stuck}
pub use Rattle.in_open_nets.proofs.Built.Forest.{Agrees, Forest, beside, close, different_of, earlier_app, get_cases, get_past, length_app}
pub use Rattle.in_open_nets.proofs.Built.Forest.{nothing, or_sum, times_app, times_in_app}
pub use Rattle.in_open_nets.proofs.Built.Grow.{Constructions, agent_or_class, class_is_place, pair_same, splits_built}
pub use Rattle.in_open_nets.proofs.Graphs.ClassWalks.{has_class, net_off_cycles, wire_back}
pub use Rattle.in_open_nets.proofs.Reached.Links.{Decided, NextIn, at_most, both_decided, least, link_back, link_first, link_join}
pub use Rattle.in_open_nets.proofs.Reached.Links.{link_map, same_nat}
pub use Rattle.in_open_nets.proofs.Passages.{passage_to}
pub use Rattle.in_open_nets.proofs.Splits.OkValues.{if_ok, if_ok_both}
pub use Rattle.in_open_nets.proofs.Splits.OneAnswer.{one_listing}
pub use Rattle.in_open_nets.proofs.Reached.OnePiece.{component_piece, joined_back, joined_on, missing_none}
pub use Rattle.in_open_nets.proofs.PartsOf.Members.{rises_more}
pub use Rattle.in_open_nets.proofs.PartsOf.Places.{IsUnitedTo, at_other, at_set, drop_here, none_there}
pub use Rattle.in_open_nets.proofs.Reached.Reaching.{among_cases, among_last, among_left, in_length}
pub use Rattle.in_open_nets.proofs.Splits.Search.{at_ports, comes_at, component, count, count_less, in_ports, is_component, linked}
pub use Rattle.in_open_nets.proofs.Splits.Search.{meet_same, one_first, one_turn, partner, test, test_is, test_yes, turn_cases, turn_one}
pub use Rattle.in_open_nets.proofs.Splits.Search.{turn_one_port, turn_one_port_most, turn_same, without}
pub use Rattle.in_open_nets.proofs.PartsOf.Slots.{wire_read}
pub use Rattle.in_open_nets.proofs.Built.Sound.{class_no_agent, port_place, wire_points}
pub use Rattle.in_open_nets.proofs.Splits.SplittingPorts.{each_split}
pub use Rattle.in_open_nets.proofs.PartsOf.Sums.{auxiliary_port, both_left, both_right, earlier_of, in_nodes_of, not_both, numbered_is}
pub use Rattle.in_open_nets.proofs.PartsOf.Sums.{of_nodes, one_other, one_same, other_port, point_node, port_no, port_none, port_or}
pub use Rattle.in_open_nets.proofs.PartsOf.Sums.{port_own, port_same, port_yes, principal_one, same_test, some_of}
pub use Rattle.in_open_nets.proofs.Built.Whole.{among_times, derivation_builds, is_node, times_among, times_some}
