-- What has been tested, turn by turn.
use Rattle.std.proofs.Common.{◌≡◌, ◌<◌, ◌≤◌, ◌+◌, ℕ, List, [], ◌∷◌, ◌++◌, length, Some, sym, subst, arith}
use Rattle.std.specs.Prelude.{slice_get}
use Rattle.in_simple_bridges.specs.Spans.{at}
use Rattle.in_open_nets.specs.Constructions.{IsIn}
use Rattle.in_open_nets.specs.OpenNets.{OpenNet, open_graph}
use Rattle.in_open_nets.specs.Splitting.{SplitsAt}
use Rattle.in_node_orders.specs.Orders.{NoNodeSplits}
use Rattle.in_node_orders.specs.declared.arrivals.Arrivals.{Arrivals}
use Rattle.in_node_orders.specs.declared.growing.Growing.{Growing}
use Rattle.in_node_orders.specs.declared.orders.Left.{Left}
use Rattle.in_node_orders.specs.Left.{HasSplitting, ShowsLeft, IsOrderFrom, IsTested, left_nodes}
use Rattle.in_node_orders.specs.Turns.{AreTurns, left_at}
use Rattle.in_node_orders.proofs.Steps.{fewer_split, node_here, none_free, nothing_taken, one_taken, put_on, within}

module _ (o : OpenNet) (nodes : List ℕ) where
  abbrev left_of : Arrivals → Growing → ℕ → List ℕ → Left
  left_of a g t free = record { arrivals = a; growing = g; turn = t; free = free }

  -- ---- the edges of a turn have come

  pub later_turn : (a : Arrivals) (t k : ℕ) → ((e : ℕ) → e < k → t ≤ at a.turns e) → (u : ℕ) → u ≤ t → (e : ℕ) → e < k → u ≤ at a.turns e
  later_turn a t k h u l e less = let m = h e less in omega (arith, m, l)

  -- ---- a node is put back

  -- those that were free, of more nodes
  pub still_free : (l0 l1 : Left) → IsTested o nodes l0 → l1.arrivals ≡ l0.arrivals → l1.turn + 1 ≡ l0.turn → (n : ℕ) → slice_get nodes l1.turn ≡ Some n → HasSplitting o (left_nodes o l1) (left_at o l1.arrivals.node_turns (l1.turn + 1)) l0.free
  still_free l0 l1 tested ea et n is =
      let turns : AreTurns (length o.nodes) nodes l1.arrivals.node_turns = subst (λ (z : Arrivals). AreTurns (length o.nodes) nodes z.node_turns) (sym ea) tested.turns in
      let f : HasSplitting o (left_at o l1.arrivals.node_turns (l1.turn + 1)) (left_at o l1.arrivals.node_turns (l1.turn + 1)) l0.free =
      subst (λ z. HasSplitting o (left_at o l1.arrivals.node_turns z) (left_at o l1.arrivals.node_turns z) l0.free) (sym et) (subst (λ (z : Arrivals). HasSplitting o (left_at o z.node_turns l0.turn) (left_at o z.node_turns l0.turn) l0.free) (sym ea) tested.free) in
      fewer_split o (left_nodes o l1) (left_at o l1.arrivals.node_turns (l1.turn + 1)) l0.free (within o nodes l1.arrivals.node_turns turns l1.turn n is) f

  -- the node is left
  pub still_here : (l0 l1 : Left) (a : Arrivals) (t n : ℕ) → IsTested o nodes l0 → l1.arrivals ≡ l0.arrivals → a ≡ l1.arrivals → t ≡ l1.turn → slice_get nodes l1.turn ≡ Some n → IsIn n (left_at o a.node_turns t)
  still_here l0 l1 a t n tested ea fa ft is =
      let turns : AreTurns (length o.nodes) nodes l1.arrivals.node_turns = subst (λ (z : Arrivals). AreTurns (length o.nodes) nodes z.node_turns) (sym ea) tested.turns in
      subst (λ (z : Arrivals). IsIn n (left_at o z.node_turns t)) (sym fa) (subst (λ z. IsIn n (left_at o l1.arrivals.node_turns z)) (sym ft) (node_here o nodes l1.arrivals.node_turns turns l1.turn n is))

  tested_base : (l0 l1 : Left) (free : List ℕ) (n : ℕ) → IsTested o nodes l0 → l1.arrivals ≡ l0.arrivals → l1.turn + 1 ≡ l0.turn → ShowsLeft o l1 → slice_get nodes l1.turn ≡ Some n →
      HasSplitting o (left_nodes o l1) (left_at o l1.arrivals.node_turns (l1.turn + 1)) free → ((k m : ℕ) → slice_get free k ≡ Some m → n < m) → SplitsAt (open_graph o) n (left_nodes o l1) →
      IsTested o nodes (left_of l1.arrivals l1.growing l1.turn (free ++ n ∷ []))
  tested_base l0 l1 free n tested ea et left is f before splits =
      let turns : AreTurns (length o.nodes) nodes l1.arrivals.node_turns = subst (λ (z : Arrivals). AreTurns (length o.nodes) nodes z.node_turns) (sym ea) tested.turns in
      let order : IsOrderFrom o l1.arrivals.node_turns nodes (l1.turn + 1) = subst (λ z. IsOrderFrom o l1.arrivals.node_turns nodes z) (sym et) (subst (λ (z : Arrivals). IsOrderFrom o z.node_turns nodes l0.turn) (sym ea) tested.order) in
      let most = tested.most in
      record {
        left = record { arrivals = left.arrivals; growing = left.growing; come = left.come };
        turns = turns;
        most = omega (arith, most, et);
        free = put_on o nodes l1.arrivals.node_turns turns l1.turn n is free f before;
        order = one_taken o nodes l1.arrivals.node_turns turns l1.turn n is free f before splits order;
      }

  pub tested_more : (l0 l1 : Left) (a : Arrivals) (g : Growing) (t : ℕ) (free : List ℕ) (n : ℕ) → IsTested o nodes l0 → l1.arrivals ≡ l0.arrivals → l1.turn + 1 ≡ l0.turn → ShowsLeft o l1 → a ≡ l1.arrivals → g ≡ l1.growing → t ≡ l1.turn → slice_get nodes l1.turn ≡ Some n →
      HasSplitting o (left_nodes o l1) (left_at o l1.arrivals.node_turns (l1.turn + 1)) free → ((k m : ℕ) → slice_get free k ≡ Some m → n < m) → SplitsAt (open_graph o) n (left_at o a.node_turns t) →
      IsTested o nodes (record { arrivals = a; growing = g; turn = t; free = free ++ n ∷ [] })
  tested_more l0 l1 a g t free n tested ea et left fa fg ft is f before splits =
      let s : SplitsAt (open_graph o) n (left_nodes o l1) = subst (λ z. SplitsAt (open_graph o) n (left_at o l1.arrivals.node_turns z)) ft (subst (λ (z : Arrivals). SplitsAt (open_graph o) n (left_at o z.node_turns t)) fa splits) in
      subst (λ z. IsTested o nodes (left_of z g t (free ++ n ∷ []))) (sym fa)
      (subst (λ z. IsTested o nodes (left_of l1.arrivals z t (free ++ n ∷ []))) (sym fg)
      (subst (λ z. IsTested o nodes (left_of l1.arrivals l1.growing z (free ++ n ∷ []))) (sym ft) (tested_base l0 l1 free n tested ea et left is f before s)))

  -- ---- before any node is put back

  pub tested_none : (l : Left) → ShowsLeft o l → AreTurns (length o.nodes) nodes l.arrivals.node_turns → l.turn ≡ length nodes → l.free ≡ [] → NoNodeSplits o (left_nodes o l) → IsTested o nodes l
  tested_none l left turns last none stuck =
      let s : NoNodeSplits o (left_at o l.arrivals.node_turns (length nodes)) = subst (λ z. NoNodeSplits o (left_at o l.arrivals.node_turns z)) last stuck in
      record {
        left = left;
        turns = turns;
        most = omega (arith, last);
        free = subst (HasSplitting o (left_nodes o l) (left_nodes o l)) (sym none) (none_free o (left_nodes o l) (left_nodes o l) stuck);
        order = subst (IsOrderFrom o l.arrivals.node_turns nodes) (sym last) (nothing_taken o nodes l.arrivals.node_turns s);
      }
