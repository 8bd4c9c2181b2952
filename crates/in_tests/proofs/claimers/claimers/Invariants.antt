use Rattle.std.proofs.Common.{◌≡◌, ◌+◌, false, All, length, vec_len}
use Rattle.in_tests.proofs.claimers.claimers.Given as goal

abbrev pub invariant-loop-seat : goal.invariant-loop-seat
invariant-loop-seat l = record {
  left : All (λ s. (s.board ≡ l.board) × (s.done ≡ false)) l.seats.items;
  made : All (λ c. c.board.now ≡ l.board) l.all.items;
  count : length l.all.items + length l.seats.items ≡ length l.fn.seats.items;
}

abbrev pub decreases-loop-seat : goal.decreases-loop-seat
decreases-loop-seat l = vec_len l.seats
