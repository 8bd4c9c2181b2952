use Rattle.std.proofs.Common.{◌≡◌, vec_len, vec_capacity}
use Rattle.in_cells.specs.Copying.{moved_end, number_in}
use Rattle.in_reducer.specs.Parting.{place_of_two}
use Rattle.in_reducer.specs.Splitting.{ArePicked}
use Rattle.in_reducer.proofs.splitting.fill_rest.Given as goal

abbrev pub invariant-loop-number : goal.invariant-loop-number
invariant-loop-number l = record {
  free : ArePicked (λ x. x) (place_of_two l.whole.cuts.own 0) l.number l.whole.free.now l.rest.free.items;
  ends : ArePicked (moved_end (λ z. z) (number_in l.fn.rest.numbers.items)) (place_of_two l.whole.cuts.own 0) l.number l.whole.ends.now l.rest.ends.items;
  numbers : l.rest.numbers ≡ l.fn.rest.numbers;
  long_free : vec_len l.rest.free ≡ l.number;
  long_ends : vec_len l.rest.ends ≡ l.number;
  room_free : vec_capacity l.rest.free ≡ vec_capacity l.fn.rest.free;
  room_ends : vec_capacity l.rest.ends ≡ vec_capacity l.fn.rest.ends;
}
