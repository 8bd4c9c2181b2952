-- The lemmas that proofs of other crates cite. They import this module alone, so all others may be renamed and cut anew.
pub use Rattle.in_compile.proofs.Compiled.Accepted.{complete, whole_rule}
pub use Rattle.in_compile.proofs.Placements.AgentByAgent.{read_at}
pub use Rattle.in_compile.proofs.Listed.Slots.{at_port}
pub use Rattle.in_compile.proofs.Placements.Back.{all_back, as_left, both_back, one_of_all, one_or_same, other_stays, shared_out}
pub use Rattle.in_compile.proofs.Listed.Once.{listed_once}
pub use Rattle.in_compile.proofs.Listed.Partners.{joins, leads, one_joint}
pub use Rattle.in_compile.proofs.Listed.WiresOver.{over_at, over_ends}
pub use Rattle.in_compile.proofs.Listed.WiresWithin.{is_listed, listed, wires_within}
pub use Rattle.in_compile.proofs.Needs.Classes.{HaveItSoFar, all_classes_have_it, counted_by, is_class, number_below_all, one_class_further, one_short, same_need, short_needed, sum_at_most}
pub use Rattle.in_compile.proofs.Placements.EndByEnd.{inside_of}
pub use Rattle.in_compile.proofs.Compiled.OneTemplate.{has_template, held, one_class, one_for}
pub use Rattle.in_compile.proofs.Placements.OnePut.{one_put}
pub use Rattle.in_compile.proofs.Placements.OneRegained.{one_arena}
pub use Rattle.in_compile.proofs.Placements.Put.{begins, none_begun, one_more_begun, some_free}
pub use Rattle.in_compile.proofs.Placements.Settled.{settled}
pub use Rattle.in_compile.proofs.Compiled.Sound.{few_agents, joints_many, sound}
pub use Rattle.in_compile.proofs.Placements.Stocked.{all_stay, cells_all, count_all, memory_all, none_in_empty, of_itself, same_or_other}
pub use Rattle.in_compile.proofs.Compiled.Taken.{mapped_more}
pub use Rattle.in_compile.proofs.Compiled.Accepted
pub use Rattle.in_compile.proofs.Compiled.Sound
