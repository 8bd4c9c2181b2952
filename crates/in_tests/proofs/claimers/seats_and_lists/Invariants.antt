use Rattle.std.proofs.Common.{◌≡◌, ◌+◌, All, length, vec_len}
use Rattle.in_tests.proofs.claimers.seats_and_lists.Given as goal

abbrev pub invariant-loop-returned : goal.invariant-loop-returned
invariant-loop-returned l = record {
  left : All (λ r. r.seat.board ≡ l.board) l.back.items;
  made : All (λ s. s.board ≡ l.board) l.seats.items;
  count : length l.seats.items + length l.back.items ≡ length l.fn.back.items;
}

abbrev pub decreases-loop-returned : goal.decreases-loop-returned
decreases-loop-returned l = vec_len l.back
