use Rattle.std.proofs.Common.{◌≡◌, ◌≤◌, ◌<◌, ◌+◌, ℕ, vec_len, vec_capacity}
use Rattle.in_cells.specs.Copying.{number_in}
use Rattle.in_reducer.specs.Parting.{place_of_two}
use Rattle.in_reducer.proofs.gluing.list_rest_numbers.Given as goal

abbrev pub invariant-loop-number : goal.invariant-loop-number
invariant-loop-number l = record {
  long : vec_len l.numbers ≡ l.number;
  each : (k : ℕ) → k < l.number → number_in l.numbers.items k ≡ place_of_two l.cuts.own 0 k;
  capacity : l.cuts.own + l.cuts.count ≤ vec_capacity l.numbers;
}
