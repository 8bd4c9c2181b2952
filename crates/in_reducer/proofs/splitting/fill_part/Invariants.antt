use Rattle.std.proofs.Common.{◌≡◌, vec_len, vec_capacity}
use Rattle.in_cells.specs.Copying.{moved_end, name_in, number_in}
use Rattle.in_reducer.specs.Parting.{place_of_two}
use Rattle.in_reducer.specs.Splitting.{ArePicked}
use Rattle.in_reducer.proofs.splitting.fill_part.Given as goal

abbrev pub invariant-loop-number : goal.invariant-loop-number
invariant-loop-number l = record {
  free : ArePicked (λ x. x) (place_of_two l.whole.cuts.own 1) l.number l.whole.free.now l.part.free.items;
  ends : ArePicked (moved_end (name_in l.names) (number_in l.fn.part.numbers.items)) (place_of_two l.whole.cuts.own 1) l.number l.whole.ends.now l.part.ends.items;
  numbers : l.part.numbers ≡ l.fn.part.numbers;
  long_free : vec_len l.part.free ≡ l.number;
  long_ends : vec_len l.part.ends ≡ l.number;
  room_free : vec_capacity l.part.free ≡ vec_capacity l.fn.part.free;
  room_ends : vec_capacity l.part.ends ≡ vec_capacity l.fn.part.ends;
}
