-- One turn: the node of the turn is put back, and the nodes that split what is left are kept.
use Rattle.std.proofs.Common.{◌≡◌, ◌≢◌, ◌↔◌, ◌<◌, ◌+◌, ◌-◌, ℕ, List, [], ◌∷◌, ◌++◌, length, take, drop, Some, sym, subst, ap, inl, inr, arith}
use Rattle.std.specs.Prelude.{slice_get}
use mathlib.Core.Path.{fun_ext}
use Rattle.std.proofs.Math.Seq.{drop-length}
use Rattle.std.proofs.lemmas.Bool.{cases_eq}
use Rattle.std.proofs.lemmas.Option.{slice_get_within}
use Rattle.in_base.proofs.Places.{kept_at, last_at, left_from, more_at, some_same}
use Rattle.in_simple_bridges.specs.Spans.{at}
use Rattle.in_simple_bridges.specs.Walks.{IsOnCycle}
use Rattle.in_open_nets.specs.ClassGraphs.{HasClass}
use Rattle.in_open_nets.specs.Constructions.{IsIn}
use Rattle.in_open_nets.specs.OpenNets.{OpenNet, IsOpenNet, NodeTest, open_graph}
use Rattle.in_open_nets.specs.Splitting.{SplitsAt}
use Rattle.in_open_nets.specs.Stuck.{IsFirstToSplit}
use Rattle.in_open_nets.proofs.Public.{net_off_cycles, same_test}
use Rattle.in_node_orders.specs.Orders.{IsLeft, IsNodeOrder, IsOrder, NoNodeSplits, all_nodes, ends, takes}
use Rattle.in_node_orders.proofs.Components.{splits_smaller}
use Rattle.in_node_orders.specs.declared.orders.Left.{Left}
use Rattle.in_node_orders.specs.Arrivals.{hub_place}
use Rattle.in_node_orders.specs.Left.{HasSplitting, ShowsLeft, IsOrderFrom, left_nodes}
use Rattle.in_node_orders.specs.Turns.{AreTurns, left_at}
use Rattle.in_node_orders.proofs.LeftNodes.{is_left, left_is}
use Rattle.in_node_orders.proofs.Prefixes.{get_taken}
use Rattle.std.proofs.lemmas.Bool.{lt-ltb}
use Rattle.std.proofs.Common.{ltb-true}

-- ---- the test of a node

module _ (o : OpenNet) (net : IsOpenNet o) (l : Left) (left : ShowsLeft o l) (n : ℕ) (here : IsIn n (left_nodes o l)) where
  abbrev HubEdgesAreOff : Type 0
  HubEdgesAreOff = (c : ℕ) → HasClass o n c → IsOnCycle (take l.growing.come l.growing.edges) (hub_place l.arrivals n c) → ⊥

  pub splits_where_off : SplitsAt (open_graph o) n (left_nodes o l) ↔ HubEdgesAreOff
  splits_where_off =
      let g = left.arrivals.graph l.turn l.growing.come left.come in
      net_off_cycles o net (left_nodes o l) g.0 (hub_place l.arrivals) (take l.growing.come l.growing.edges) g.1 n here

  pub hub_edge_come : (c : ℕ) → HasClass o n c → hub_place l.arrivals n c < l.growing.come
  hub_edge_come c h =
      let g = left.arrivals.graph l.turn l.growing.come left.come in
      (get_taken l.growing.edges l.growing.come (hub_place l.arrivals n c) _ (g.1.hub n c here h)).0

-- ---- the nodes that split what is left

module _ (o : OpenNet) (s t : NodeTest) where
  pub none_free : NoNodeSplits o s → HasSplitting o s s []
  none_free stuck = record { all = λ n h k. absurd (stuck n h k); inside = λ k n h. absurd (empty k n h); fall = λ j k m n l h g. absurd (empty j m h) }
    where
      empty : (k n : ℕ) → slice_get (let xs : List ℕ = [] in xs) k ≡ Some n → ⊥
      empty k n h = cc

  -- with more nodes fewer split
  pub fewer_split : (free : List ℕ) → ((m : ℕ) → IsIn m t → IsIn m s) → HasSplitting o t t free → HasSplitting o s t free
  fewer_split free within f = record { all = λ n h k. f.all n h (splits_smaller o t s n within k); inside = f.inside; fall = f.fall }

  -- the last one doesn't split
  pub last_off : (free : List ℕ) (last : ℕ) → HasSplitting o s t (free ++ last ∷ []) → (SplitsAt (open_graph o) last s → ⊥) → HasSplitting o s t free
  last_off free last f off = record {
    all = λ n h k.
        let r = f.all n h k in
        elim (more_at free last n r.0 r.1) [ inl g ↦ (r.0, g) | inr g ↦ absurd (off (subst (λ z. SplitsAt (open_graph o) z s) (sym g.1) k)) ];
    inside = λ k n h. f.inside k n (kept_at free (last ∷ []) k n h);
    fall = λ j k m n l h g. f.fall j k m n l (kept_at free (last ∷ []) j m h) (kept_at free (last ∷ []) k n g);
  }

  -- a node before the last one is before all
  pub before_all : (free : List ℕ) (node last : ℕ) → HasSplitting o s t free → slice_get free (length free - 1) ≡ Some last → node < last → (k m : ℕ) → slice_get free k ≡ Some m → node < m
  before_all free node last f e less k m h = elim (cases_eq k (length free - 1)) [
    | inl same ↦ let q : m ≡ last = some_same (slice_get free (length free - 1)) m last (subst (λ z. slice_get free z ≡ Some m) same h) e in omega (arith, q, less)
    | inr d ↦
        let small = slice_get_within free k m h in
        let j = f.fall k (length free - 1) m last (omega (arith, d, small)) h e in
        omega (arith, j, less)
  ]

-- ---- a node is put back

module _ (o : OpenNet) (nodes turns : List ℕ) (ts : AreTurns (length o.nodes) nodes turns) (i n : ℕ) (is_turn : slice_get nodes i ≡ Some n) where
  abbrev s : NodeTest
  s = left_at o turns i

  abbrev t : NodeTest
  t = left_at o turns (i + 1)

  pub node_here : IsIn n s
  node_here = let r = ts.of_node i n (slice_get_within nodes i n is_turn) is_turn in let e = r.1 in is_left o turns i n r.0 (omega (arith, e))

  pub within : (m : ℕ) → IsIn m t → IsIn m s
  within m h = let r = left_is o turns (i + 1) m h in let l = r.1 in is_left o turns i m r.0 (omega (arith, l))

  -- the nodes that are left are this one, and those that were left
  others : (m : ℕ) → IsIn m s → m ≢ n → IsIn m t
  others m h d =
      let r = left_is o turns i m h in
      let l = r.1 in
      elim (cases_eq (at turns m) i) [
        | inl same ↦
            let small = slice_get_within nodes i n is_turn in
            elim (ts.of_turn m r.0) [
              | inl none ↦ absurd (omega (arith, none, same, small))
              | inr g ↦ absurd (d (some_same (slice_get nodes i) m n (subst (λ z. slice_get nodes z ≡ Some m) same g.1) is_turn))
            ]
        | inr e ↦ is_left o turns (i + 1) m r.0 (omega (arith, l, e))
      ]

  rest : IsLeft n s t
  rest m = (
    (λ h. (
      within m h,
      λ e.
          let r = left_is o turns (i + 1) m h in
          let l = r.1 in
          let f = (ts.of_node i n (slice_get_within nodes i n is_turn) is_turn).1 in
          let g : at turns m ≡ at turns n = ap (at turns) e in
          omega (arith, l, f, g),
    )),
    λ h. others m h.0 h.1,
  )

  module _ (free : List ℕ) (f : HasSplitting o s t free) (before : (k m : ℕ) → slice_get free k ≡ Some m → n < m) where
    pub put_on : HasSplitting o s s (free ++ n ∷ [])
    put_on = record {
      all = λ m h k. elim (cases_eq m n) [
        | inl same ↦ (length free, subst (λ z. slice_get (free ++ n ∷ []) (length free) ≡ Some z) (sym same) (last_at free n))
        | inr d ↦ let r = f.all m (others m h d) k in (r.0, kept_at free (n ∷ []) r.0 m r.1)
      ];
      inside = λ k m h. elim (more_at free n m k h) [
        | inl g ↦ within m (f.inside k m g)
        | inr g ↦ subst (λ z. IsIn z s) g.1 node_here
      ];
      fall = λ j k m p l h g. elim (more_at free n p k g) [
        | inl here ↦ elim (more_at free n m j h) [
          | inl there ↦ f.fall j k m p l there here
          | inr last ↦ let small = slice_get_within free k p here in let e = last.0 in absurd (omega (arith, small, e, l))
        ]
        | inr here ↦
            let e = here.0 in
            elim (more_at free n m j h) [
              | inl there ↦ let b = before j m there in let q = here.1 in omega (arith, b, q)
              | inr last ↦ let a = last.0 in absurd (omega (arith, a, e, l))
            ]
      ];
    }

    first : SplitsAt (open_graph o) n s → IsFirstToSplit o n s
    first h = record {
      here = node_here;
      splits = h;
      first = λ m inside less k.
          let r = f.all m (others m inside (λ e. omega (arith, e, less))) k in
          let b = before r.0 m r.1 in
          omega (arith, b, less);
    }

    pub one_taken : SplitsAt (open_graph o) n s → IsOrderFrom o turns nodes (i + 1) → IsOrderFrom o turns nodes i
    one_taken h order = subst (λ z. IsOrder o s z (left_at o turns (length nodes))) (sym (left_from nodes i n is_turn)) (takes s t (left_at o turns (length nodes)) n (drop (i + 1) nodes) (first h) rest order)

-- ---- both ends

pub nothing_taken : (o : OpenNet) (nodes turns : List ℕ) → NoNodeSplits o (left_at o turns (length nodes)) → IsOrderFrom o turns nodes (length nodes)
nothing_taken o nodes turns stuck = subst (λ z. IsOrder o (left_at o turns (length nodes)) z (left_at o turns (length nodes))) (sym (drop-length nodes)) (ends (left_at o turns (length nodes)) stuck)

pub all_taken : (o : OpenNet) (nodes turns : List ℕ) → IsOrderFrom o turns nodes 0 → IsNodeOrder o nodes
all_taken o nodes turns order =
    let e : left_at o turns 0 ≡ all_nodes o = fun_ext (λ n. same_test (left_at o turns 0 n) (all_nodes o n) (λ h. lt-ltb n (length o.nodes) (left_is o turns 0 n h).0) (λ h. is_left o turns 0 n (ltb-true n (length o.nodes) h) (omega arith))) in
    (left_at o turns (length nodes), subst (λ z. IsOrder o z nodes (left_at o turns (length nodes))) e order)
