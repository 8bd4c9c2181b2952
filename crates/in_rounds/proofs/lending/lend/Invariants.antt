use Rattle.std.proofs.Common.{◌≡◌, ◌≤◌, ◌+◌, [], vec_len, vec_capacity, All}
use Rattle.in_arena.specs.Arenas.{free_of}
use Rattle.in_rounds.specs.Bringing.{in_hands}
use Rattle.in_rounds.specs.Lending.{AreLentOut, IsFreshHand, IsShare}
use Rattle.in_rounds.specs.Works.{IsReady}
use Rattle.in_rounds.proofs.lending.lend.Given as goal

abbrev pub invariant-loop-hand : goal.invariant-loop-hand
invariant-loop-hand l = record {
  lent : AreLentOut (in_hands l.lent.items) l.fn.arena l.arena;
  ready : All (IsReady l.plan l.board) l.lent.items;
  none_done : All (λ p. p.done.items ≡ []) l.lent.items;
  hands : All (IsFreshHand l.plan l.board l.fn.arena l.share) l.hands.items;
  share : IsShare (vec_len l.hands) l.share (free_of l.arena);
  count : vec_len l.lent + vec_len l.hands ≡ vec_len l.fn.hands;
  room : vec_len l.lent + vec_len l.hands ≤ vec_capacity l.lent;
}

abbrev pub decreases-loop-hand : goal.decreases-loop-hand
decreases-loop-hand l = vec_len l.hands
