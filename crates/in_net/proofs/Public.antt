-- The lemmas that proofs of other crates cite. They import this module alone, so all others may be renamed and cut anew.
pub use Rattle.in_net.proofs.AtPairs.ActivePairs.{below_or, flipped, no_both, one_partner, symbol_known}
pub use Rattle.in_net.proofs.AtPairs.BoundaryTypes.{declared_at, types_many}
pub use Rattle.in_net.proofs.Refusals.FewAgents.{few_agents}
pub use Rattle.in_net.proofs.Texts.Lists.{cell_within, none_read, some_read, there_read}
pub use Rattle.in_net.proofs.Refusals.NumberTests.{equal_turned, lt_tells}
pub use Rattle.in_net.proofs.WholeNets.OneNet.{cell_over, is_net, map_is, round_code, round_point}
pub use Rattle.in_net.proofs.WholeNets.OneText.{nets_once, rules_once}
pub use Rattle.in_net.proofs.AtPairs.PairOfWire.{first_there, in_their_order, one_on_wire, second_there, two_agents}
pub use Rattle.in_net.proofs.AtPairs.PairPorts.{cond_cases, cond_same, end_has, end_of, end_of_pair, end_same, first_wire, not_old}
pub use Rattle.in_net.proofs.AtPairs.PairPorts.{not_pair, port_agent, port_place, stands_one, symbol_of}
pub use Rattle.in_net.proofs.WholeNets.SameNet.{all_same, not_both}
pub use Rattle.in_net.proofs.Texts.Small.{are_small}
pub use Rattle.in_net.proofs.WholeNets.WireAt.{has_partner}
pub use Rattle.in_net.proofs.WholeNets.Within.{symbol_within}
