use Rattle.std.proofs.Common.{◌≡◌, ◌+◌, ◌-◌, false, [], ◌∷◌, replicate}
use Rattle.in_claims.specs.Rule.{hand}
use Rattle.in_claims.specs.Seats.{fresh}
use Rattle.in_claims.proofs.board.Board.new.Given as goal

abbrev pub invariant-loop-made : goal.invariant-loop-made
invariant-loop-made l = record {
  made : l.all.items ≡ replicate (l._made - 1) (fresh (record { table = l.table.shared.table_id; limit = l.size.limit; seats = l.size.seats }));
  of : l.first.table_id ≡ l.table.shared.table_id;
  me : l.first.me ≡ (hand (l.seats + 1 - l._made) l.size [] false ∷ [], []);
}
