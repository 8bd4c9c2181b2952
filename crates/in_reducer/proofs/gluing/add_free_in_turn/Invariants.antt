use Rattle.std.proofs.Common.{◌≡◌, ◌+◌, ◌++◌, take, vec_len, vec_capacity}
use Rattle.in_reducer.specs.Gluing.{in_turn}
use Rattle.in_reducer.proofs.gluing.add_free_in_turn.Given as goal

abbrev pub invariant-loop-cut : goal.invariant-loop-cut
invariant-loop-cut l = record {
  items : l.free.items ≡ l.fn.free.items ++ in_turn (take l.cut l.part) (take l.cut l.rest);
  long : vec_len l.free ≡ vec_len l.fn.free + l.cut + l.cut;
  capacity : vec_capacity l.free ≡ vec_capacity l.fn.free;
}
