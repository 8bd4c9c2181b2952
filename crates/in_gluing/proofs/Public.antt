-- The lemmas that proofs of other crates cite. They import this module alone, so all others may be renamed and cut anew.
pub use Rattle.in_gluing.proofs.AsGluing.{agent_back}
pub use Rattle.in_gluing.proofs.Beside.{all_joined_is_glued, beside_joins_none}
pub use Rattle.in_gluing.proofs.BesideAlike.{beside_is_one, beside_parts_are_alike}
pub use Rattle.in_gluing.proofs.BesideNets.{beside_parts_are_nets, net_within}
pub use Rattle.in_gluing.proofs.BothOrders.{birth_discrete, diamond, redex_stays}
pub use Rattle.in_gluing.proofs.Boundary.{at_end, next_outer}
pub use Rattle.in_gluing.proofs.Cutting.{cuts_are_joined, join_exists}
pub use Rattle.in_gluing.proofs.EndByEnd.{all_joined_is_step, ends_are_joined_in_turn, ends_from_have_one_more, ends_from_none_to_all}
pub use Rattle.in_gluing.proofs.Frame.{glued_of_step, map_some, naming}
pub use Rattle.in_gluing.proofs.GluedOnce.{glued_of_renamed, glued_once, rename, rename_apart}
pub use Rattle.in_gluing.proofs.Helpers.{at_outer, cases_le, pick, pick_no, pick_yes}
pub use Rattle.in_gluing.proofs.Joining.{joins_next}
pub use Rattle.in_gluing.proofs.MadeByJoining.{all_made_are_over_ends, no_more_is_made, none_is_made_first, one_more_is_made}
pub use Rattle.in_gluing.proofs.MadeByJoining.{pairs_are_made_where_joined}
pub use Rattle.in_gluing.proofs.Names.{not_some, renamed_exists}
pub use Rattle.in_gluing.proofs.NamesExist.{names_exist}
pub use Rattle.in_gluing.proofs.Pairs.{AreApart, apart, other_agent, turned}
pub use Rattle.in_gluing.proofs.Points.{mapped, none_some}
pub use Rattle.in_gluing.proofs.Rest.{rest_exists}
pub use Rattle.in_gluing.proofs.SideBySide.{end_there, end_type, image, is_image, many_ends, one_point, point_kept, point_there}
pub use Rattle.in_gluing.proofs.SideBySide.{symbol_kept, wire_kept}
pub use Rattle.in_gluing.proofs.Standing.{taken_apart_exists}
pub use Rattle.in_gluing.proofs.TakenApart.{taken_apart_has_joined_none}
