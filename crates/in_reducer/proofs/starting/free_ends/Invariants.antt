use Rattle.std.proofs.Common.{◌≡◌, ◌≤◌, ℕ, Some, length, map, take, slice_get, vec_capacity}
use Rattle.in_check.specs.Programs.{Program}
use Rattle.in_reducer.specs.declared.body.OwnEnd.{OwnEnd}
use Rattle.in_reducer.specs.Inside.{IsOwnEnd, declared_as}
use Rattle.in_reducer.proofs.starting.free_ends.Given as goal

abbrev pub invariant-loop-number : goal.invariant-loop-number
invariant-loop-number l = record {
  room : l.own ≤ vec_capacity l.free;
  count : length l.free.items ≡ l.number;
  program : (p : Program) → p.net ≡ l.net → map (declared_as p) l.free.items ≡ take l.number p.net.free;
  each : (p : Program) → p.net ≡ l.net → (k : ℕ) (e : OwnEnd) → slice_get l.free.items k ≡ Some e → IsOwnEnd p e;
}
