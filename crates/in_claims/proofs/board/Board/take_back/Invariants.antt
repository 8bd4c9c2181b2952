use Rattle.std.proofs.Common.{◌≡◌, [], ◌++◌, map, vec_len, All}
use Rattle.in_claims.specs.Seats.{hand_of}
use Rattle.in_claims.proofs.board.Board.take_back.Given as goal

abbrev pub invariant-loop-seat : goal.invariant-loop-seat
invariant-loop-seat l = record {
  of : All (λ s. s.board ≡ l.self) l.rest.items;
  all_of : l.all.table_id ≡ l.self.table;
  hands : map hand_of l.rest.items ++ l.all.me.0 ≡ map hand_of l.fn.seats.items;
  no_slot : l.all.me.1 ≡ [];
}

abbrev pub decreases-loop-seat : goal.decreases-loop-seat
decreases-loop-seat l = vec_len l.rest
