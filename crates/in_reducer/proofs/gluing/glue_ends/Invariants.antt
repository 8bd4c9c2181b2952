use Rattle.std.proofs.Common.{◌≡◌, ◌+◌, ◌++◌, map, take, vec_len, vec_capacity}
use Rattle.in_cells.specs.Copying.{moved_end, name_in, number_in}
use Rattle.in_reducer.specs.Gluing.{in_turn}
use Rattle.in_reducer.proofs.gluing.glue_ends.Given as goal

abbrev pub invariant-loop-number : goal.invariant-loop-number
invariant-loop-number l = record {
  items : l.ends.items ≡ l.fn.ends.items ++ map (moved_end (λ z. z) (number_in l.halves.rest_numbers.now)) (take l.number l.halves.rest.now);
  long : vec_len l.ends ≡ vec_len l.fn.ends + l.number;
  capacity : vec_capacity l.ends ≡ vec_capacity l.fn.ends;
}

abbrev pub invariant-loop-cut : goal.invariant-loop-cut
invariant-loop-cut l = record {
  items : l.ends.items ≡ (l.fn.ends.items ++ map (moved_end (λ z. z) (number_in l.halves.rest_numbers.now)) (take l.own l.halves.rest.now))
      ++ in_turn (map (moved_end (name_in l.halves.names.now) (number_in l.halves.part_numbers.now)) (take l.cut l.halves.part.now)) (map (moved_end (λ z. z) (number_in l.halves.rest_numbers.now)) (take l.cut l.of_cuts));
  long : vec_len l.ends ≡ vec_len l.fn.ends + l.own + l.cut + l.cut;
  capacity : vec_capacity l.ends ≡ vec_capacity l.fn.ends;
}
