use Rattle.std.proofs.Common.{◌≡◌, ◌+◌, ◌++◌, List, length, vec_len, vec_capacity}
use Rattle.in_arena.specs.declared.content.End.{End}
use Rattle.in_reducer.proofs.appending.add_sides.Given as goal

abbrev pub invariant-loop-side : goal.invariant-loop-side
invariant-loop-side l = record {
  items : (room : List End) × (length room ≡ l._side) × (l.ends.items ≡ l.fn.ends.items ++ room);
  long : vec_len l.ends ≡ vec_len l.fn.ends + l._side;
  capacity : vec_capacity l.ends ≡ vec_capacity l.fn.ends;
}
