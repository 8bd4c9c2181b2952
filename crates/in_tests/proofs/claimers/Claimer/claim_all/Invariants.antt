use Rattle.std.proofs.Common.{◌≡◌, false}
use Rattle.in_tests.proofs.claimers.Claimer.claim_all.Given as goal

abbrev pub invariant-loop-turn : goal.invariant-loop-turn
invariant-loop-turn l = (l.seat.board ≡ l.board) × (l.seat.done ≡ false)
