use Rattle.std.proofs.Common.{◌≡◌}
use Rattle.in_arena.proofs.Filling.{IsFilledTo}
use Rattle.in_arena.proofs.row.write_new.Given as goal

abbrev pub invariant-loop-place : goal.invariant-loop-place
invariant-loop-place l = record {
  same : l.words.at ≡ l.fn.words.at;
  filled : IsFilledTo l.spot.cells l.fn.words.slots l.words.slots l.spot.class l.spot.index l.place;
}
