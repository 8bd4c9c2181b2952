use Rattle.std.proofs.Common.{◌≡◌, ◌≤◌, ◌<◌, ◌-◌, ℕ, length, slice_get}
use Rattle.in_arena.specs.Arenas.{ArenaView}
use Rattle.in_reducer.specs.Inside.{most_ends}
use Rattle.in_reducer.specs.Wiring.{CanBegin, HasBegunBelow}
use Rattle.in_reducer.proofs.wiring.begin_from.Given as goal

abbrev pub invariant-loop-next : goal.invariant-loop-next
invariant-loop-next l = record {
  begun : (a : ArenaView) → CanBegin l.member a l.fn.points → HasBegunBelow l.member a l.from l.fn.arena l.fn.points → HasBegunBelow l.member a l.next l.arena l.points;
  few : l.next ≤ l.many;
  ends : (e : ℕ) → e < most_ends → slice_get l.points e ≡ slice_get l.fn.points e;
  long : length l.points ≡ length l.fn.points;
}

abbrev pub decreases-loop-next : goal.decreases-loop-next
decreases-loop-next l = l.many - l.next
