-- The lemmas that proofs of other crates cite. They import this module alone, so all others may be renamed and cut anew.
pub use Rattle.in_interaction.proofs.Interactions.Ahead.{each_leads_on}
pub use Rattle.in_interaction.proofs.Interactions.Alternating.{has_value, one_wire}
pub use Rattle.in_interaction.proofs.Interactions.ClosedPath.{no_closed_path}
pub use Rattle.in_interaction.proofs.Interactions.Names.{class_discrete}
pub use Rattle.in_interaction.proofs.Interactions.NoNewCircle.{no_new_circle}
pub use Rattle.in_interaction.proofs.Interactions.OneResult.{one_result, same_free, same_net, same_point}
pub use Rattle.in_interaction.proofs.Interactions.PathEnds.{not_principal, outer_at, outer_next}
pub use Rattle.in_interaction.proofs.Interactions.StaysNet.{is_net}
pub use Rattle.in_interaction.proofs.Interactions.StepExists.{step_exists}
pub use Rattle.in_interaction.proofs.Interactions.Through.{pt_same, through_ends}
pub use Rattle.in_interaction.proofs.Interactions.Vicious.{crossing_circle}
pub use Rattle.in_interaction.proofs.Queues.Apart.{apart, back_in, same_numbers}
pub use Rattle.in_interaction.proofs.Queues.FirstPairs.{same_first}
pub use Rattle.in_interaction.proofs.Queues.FirstQueue.{AreFirst, is_first, not_here, one_here}
pub use Rattle.in_interaction.proofs.Queues.NewPairs.{made_numbers}
pub use Rattle.in_interaction.proofs.Stepping.Halves.{few}
pub use Rattle.in_interaction.proofs.Stepping.KeptOrMade.{has_symbol, kept_or_made, least_are_names, not_made, stays_after, symbol_after}
pub use Rattle.in_interaction.proofs.Stepping.KeptOrMade.{symbol_is, symbol_number}
pub use Rattle.in_interaction.proofs.Stepping.Making.{agent_same, end_once, stays_as}
pub use Rattle.in_interaction.proofs.Stepping.OnePair.{pair_once, symbol_once}
pub use Rattle.in_interaction.proofs.Stepping.Outcome.{cell_of_symbol}
pub use Rattle.in_interaction.proofs.Stepping.OneOutcome.{one_made_over_ends, one_outcome, same_option}
pub use Rattle.in_interaction.proofs.Stepping.Partners.{net_wire}
pub use Rattle.in_interaction.proofs.Stepping.Sites.{redex_in}
pub use Rattle.in_interaction.proofs.Interactions.Through
