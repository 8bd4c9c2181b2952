use Rattle.std.proofs.Common.{◌≡◌, ◌≤◌, ◌<◌, ℕ, vec_len, vec_capacity}
use Rattle.in_cells.specs.Copying.{number_in}
use Rattle.in_reducer.specs.Parting.{place_of_two}
use Rattle.in_reducer.proofs.gluing.list_part_numbers.Given as goal

abbrev pub invariant-loop-cut : goal.invariant-loop-cut
invariant-loop-cut l = record {
  long : vec_len l.numbers ≡ l.cut;
  each : (k : ℕ) → k < l.cut → number_in l.numbers.items k ≡ place_of_two l.cuts.own 1 k;
  capacity : l.cuts.count ≤ vec_capacity l.numbers;
}
