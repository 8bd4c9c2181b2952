use Rattle.std.proofs.Common.{◌≡◌, ◌+◌, ◌++◌, take, vec_len, vec_capacity}
use Rattle.in_reducer.proofs.appending.add_free.Given as goal

abbrev pub invariant-loop-number : goal.invariant-loop-number
invariant-loop-number l = record {
  items : l.free.items ≡ l.fn.free.items ++ take l.number l.more;
  long : vec_len l.free ≡ vec_len l.fn.free + l.number;
  capacity : vec_capacity l.free ≡ vec_capacity l.fn.free;
}
