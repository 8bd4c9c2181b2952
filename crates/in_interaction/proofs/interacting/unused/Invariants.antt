use Rattle.std.proofs.Common.{◌≡◌, ◌<◌, ◌+◌, ℕ, length, slice_get, Some}
use Rattle.in_interaction.specs.Interacting.{unused}
use Rattle.in_interaction.proofs.interacting.unused.Given as goal

abbrev pub invariant-loop-more : goal.invariant-loop-more
invariant-loop-more l = record {
  many : length l.names.items ≡ l.found + l.more;
  names : (k : ℕ) → k < length l.names.items → slice_get l.names.items k ≡ Some (record { 0 = unused l.cells k });
}
