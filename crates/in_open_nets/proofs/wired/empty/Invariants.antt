use Rattle.std.proofs.Common.{◌≡◌, ℕ, length, get_or, None}
use Rattle.in_open_nets.proofs.wired.empty.Given as goal

abbrev pub invariant-loop-slot : goal.invariant-loop-slot
invariant-loop-slot l = record {
  count : length l.slots ≡ l.slot;
  empty : (i : ℕ) → get_or l.slots i None ≡ None;
}
