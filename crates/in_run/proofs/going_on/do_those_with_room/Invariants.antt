use Rattle.std.proofs.Common.{◌≡◌, ◌≤◌, ◌<◌, ℕ, length}
use Rattle.in_reducer.specs.Steps.{HasRoomAt}
use Rattle.in_run.specs.Advancing.{RunsAnyhow}
use Rattle.in_run.proofs.going_on.do_those_with_room.Given as goal

abbrev pub invariant-loop-number : goal.invariant-loop-number
invariant-loop-number l = record {
  goes : RunsAnyhow l.fn.machine l.count l.machine;
  most : l.count ≤ l.most;
  there : l.number ≤ length l.machine.queue;
  none : l.count ≡ 0 → (l.machine ≡ l.fn.machine) × ((i : ℕ) → l.number ≤ i → i < length l.fn.machine.queue → HasRoomAt l.fn.machine i → ⊥);
}
