use Rattle.std.proofs.Common.{◌≡◌, ◌≤◌, ◌+◌, vec_len, vec_capacity, All}
use Rattle.in_claims.specs.Seats.{fresh}
use Rattle.in_rounds.specs.Lending.{IsFreshHand}
use Rattle.in_rounds.proofs.lending.hands.Given as goal

abbrev pub invariant-loop-seat : goal.invariant-loop-seat
invariant-loop-seat l = record {
  seats : All (λ s. s ≡ fresh l.board) l.seats.items;
  each : All (IsFreshHand l.plan l.board l.arena l.share) l.hands.items;
  count : vec_len l.hands + vec_len l.seats ≡ vec_len l.fn.seats;
  room : vec_len l.hands + vec_len l.seats ≤ vec_capacity l.hands;
}

abbrev pub decreases-loop-seat : goal.decreases-loop-seat
decreases-loop-seat l = vec_len l.seats
