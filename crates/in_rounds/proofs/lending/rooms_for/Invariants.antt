use Rattle.std.proofs.Common.{◌≡◌, ◌≤◌, vec_len, vec_capacity, All}
use Rattle.in_rounds.specs.Works.{IsEmptyRoom}
use Rattle.in_rounds.proofs.lending.rooms_for.Given as goal

abbrev pub invariant-loop-made : goal.invariant-loop-made
invariant-loop-made l = record {
  each : All (IsEmptyRoom l.plan.templates.templates l.stock) l.rooms.items;
  made : vec_len l.rooms ≡ l._made;
  room : l.count ≤ vec_capacity l.rooms;
}
