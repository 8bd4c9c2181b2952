-- The lemmas that proofs of other crates cite. They import this module alone, so all others may be renamed and cut anew.
pub use Rattle.in_reducer.proofs.Cells.AsMany.{agents_as_many, as_many_of}
pub use Rattle.in_reducer.proofs.Cells.AtRest.{agents_same, rests}
pub use Rattle.in_reducer.proofs.Starts.Accepted.{few_ports, net_over_at, net_there_at, one_rule}
pub use Rattle.in_reducer.proofs.Pairs.Queues.{agent_numbers, all_classes, as_many, numbered, numbered_once, numbered_only, reducer_promised, reducer_queue, short_queue}
pub use Rattle.in_reducer.proofs.Cuts.Reduced.{cuts_are_undone, parts_reduce_the_whole, reductions_go_on, stays_reduce, steps_reduce}
pub use Rattle.in_reducer.proofs.Pairs.Requeued.{other_pair, was_there}
pub use Rattle.in_reducer.proofs.Results.{first_steps_are_one, needs_are_one, passes, room_moved}
pub use Rattle.in_reducer.proofs.Starts.Begun.{each_push}
pub use Rattle.in_reducer.proofs.Starts.Started.{lives, queue_moved, symbol_back, symbol_moved}
pub use Rattle.in_reducer.proofs.Steps.Ahead.{symbols_stay}
pub use Rattle.in_reducer.proofs.Steps.Found
pub use Rattle.in_reducer.proofs.Steps.Stepped.{free_is}
pub use Rattle.in_reducer.proofs.Steps.StepsOn
pub use Rattle.in_reducer.proofs.Steps.TakesNeed.{takes_its_need}
pub use Rattle.in_reducer.proofs.Steps.Wired.{at_among}
pub use Rattle.in_reducer.proofs.Numbers.Before.{IsAsideBy, joined, number_below, one_run, one_step, put_aside, reducer_runs, run_before, runs_on, same_run, stand_aside, step_before, takes_step}
pub use Rattle.in_reducer.proofs.Numbers.Between.{between, from_to, renamed_between}
pub use Rattle.in_reducer.proofs.Numbers.OfSame.{counted_same, over_under, reducer_same, start_same_as}
pub use Rattle.in_reducer.proofs.Numbers.Renamed.{is_under, machine_under}
pub use Rattle.in_reducer.proofs.Numbers.SameKind.{an_equivalence, same_self, same_through}
pub use Rattle.in_reducer.proofs.Numbers.SameStep.{map_fixed, map_removed, map_same, map_twice, need_moved, pair_moved, rule_moved, same_step}
pub use Rattle.in_reducer.proofs.Numbers.Aside.{pairs_aside_are_alike, point_stays}
