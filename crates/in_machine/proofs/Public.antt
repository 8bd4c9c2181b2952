-- The lemmas that proofs of other crates cite. They import this module alone, so all others may be renamed and cut anew.
pub use Rattle.in_machine.proofs.Alongside.{along}
pub use Rattle.in_machine.proofs.InTurn.{room_lasts}
pub use Rattle.in_machine.proofs.ListedAgents.{agents_listed, cell_there}
pub use Rattle.in_machine.proofs.OneEnd.{normal_ends_are_one}
pub use Rattle.in_machine.proofs.SameMachine.{machine_same, reached_same}
pub use Rattle.in_machine.proofs.SameRun.{machine_runs, one_need, same_run}
pub use Rattle.in_reducer.proofs.Public.{passes, room_moved}
pub use Rattle.in_machine.proofs.SameStart.{count_at, same_start, start_machine, start_reached}
pub use Rattle.in_machine.proofs.StepsOn.{as_reducer, machine_on, machine_promised, machine_queue}
pub use Rattle.in_machine.proofs.Taking.{firsts_taken_are_one}
