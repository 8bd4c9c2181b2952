-- A part that is known by its head is a component of what is left at some time, so it is taken apart at the head or stuck.
use Rattle.std.proofs.Common.{◌≡◌, ◌≢◌, ◌↔◌, ◌<◌, ◌≤◌, ℕ, suc, Bool, true, false, cond, ◌&&◌, not, nat_eq, nat_lt, length, sym, subst, ap, inl, inr, ◌∙◌, eq-eqb, ne_eqb, ltb-true, lt-ltb, arith}
use Rattle.std.proofs.lemmas.Bool.{and_from}
use Rattle.in_base.specs.Graphs.{Graph}
use Rattle.in_open_nets.specs.declared.open_nets.OpenPoint.TheVariants.{Port}
use Rattle.in_open_nets.specs.Constructions.{IsIn}
use Rattle.in_open_nets.specs.Members.{nodes_in}
use Rattle.in_open_nets.specs.OpenNets.{IsWire, open_graph}
use Rattle.in_open_nets.specs.Parts.{IsRest, NoneSplits}
use Rattle.in_open_nets.specs.Splitting.{Linked, alone, onward, Without}
use Rattle.in_open_nets.specs.Stuck.{IsFirstToSplit}
use Rattle.in_open_nets.proofs.Public.{at_most, both_left, both_right, link_back, link_first, link_join, link_map, not_both, same_nat}
use Rattle.in_node_orders.proofs.Public.{AreComponents, In, first_of_components, link_within, splits_larger}
use Rattle.in_simple_deriving.specs.Turns.{HeadedPart, NodeOrder, NamesPart, headed, IsHeadFrom, IsNodeTurns, is_in_part, is_joined_from, left, node_at, part_of, rest_of, turn_of}
use Rattle.in_simple_deriving.proofs.Tests.{below_in, is_in, link_ways, ways_link}

-- a link goes through nodes that are linked to its first one
pub link_each : (g : Graph) (P Q : g.Node → Type 0) (l m : g.Node) → ((k : g.Node) → Linked g P l k → Q k) → Linked g P l m → Linked g Q l m
link_each g P Q l m f (alone _ h) = alone l (f l (alone l h))
link_each g P Q l m f (onward _ n _ i j h w r) =
    onward l n m i j (f l (alone l h)) w (link_each g P Q n m (λ k u. f k (onward l n k i j h w u)) r)

is_not : (a b : ℕ) → a ≢ b → not (nat_eq a b) ≡ true
is_not a b d = let e : nat_eq a b ≡ false = ne_eqb a b d in ap not e

not_same : (a b : ℕ) → not (nat_eq a b) ≡ true → a ≢ b
not_same a b h e = let f : nat_eq a b ≡ true = eq-eqb a b e in not_both (not (nat_eq a b)) h (ap not f)

module _ (x : NodeOrder) where
  abbrev N : ℕ
  N = length x.net.nodes

  abbrev Left : ℕ → ℕ → Type 0
  Left t m = IsIn m (left x t)

  abbrev JoinedIn : ℕ → ℕ → ℕ → Type 0
  JoinedIn t l m = Linked (open_graph x.net) (Left t) l m

  pub left_is : (t m : ℕ) → Left t m → (m < N) × (t ≤ turn_of x m)
  left_is t m g =
      let l = ltb-true t (suc (turn_of x m)) (both_right (nat_lt m N) (nat_lt t (suc (turn_of x m))) g) in
      (ltb-true m N (both_left (nat_lt m N) (nat_lt t (suc (turn_of x m))) g), omega arith)

  pub left_in : (t m : ℕ) → m < N → t ≤ turn_of x m → Left t m
  left_in t m a b = and_from (nat_lt m N) (nat_lt t (suc (turn_of x m))) (lt-ltb m N a) (lt-ltb t (suc (turn_of x m)) (omega arith))

  pub left_more : (s t : ℕ) → s ≤ t → (m : ℕ) → Left t m → Left s m
  left_more s t le m g = let r = left_is t m g in let r1 = r.1 in left_in s m r.0 (omega arith)

  pub from_is : (t a m : ℕ) → IsIn m (is_joined_from x t a) ↔ JoinedIn t a m
  from_is t a m = (ways_link x.net (left x t) N a m, link_ways x.net (left x t) N (λ n g. (left_is t n g).0) a m)

  -- a head leads to the same nodes among those whose turns aren't before its own
  pub head_link : (t a m : ℕ) → IsHeadFrom x t a → JoinedIn t a m ↔ JoinedIn (turn_of x a) a m
  head_link t a m h = (
    link_each (open_graph x.net) (Left t) (Left (turn_of x a)) a m (λ k u.
        let r = left_is t k (link_first (open_graph x.net) (Left t) k a (link_back x.net (Left t) (is_in (left x t)) a k u)) in
        left_in (turn_of x a) k r.0 (h.1 k u)),
    link_map (open_graph x.net) (Left (turn_of x a)) (Left t) (left_more t (turn_of x a) (left_is t a h.0).1) a m,
  )

  pub last_in : (t l m : ℕ) → JoinedIn t l m → Left t m
  last_in t l m u = link_first (open_graph x.net) (Left t) m l (link_back x.net (Left t) (is_in (left x t)) l m u)

  -- ---- the nodes of a part

  in_first : (a m : ℕ) → turn_of x a ≡ 0 → is_in_part x a m ≡ nat_lt m N
  unfolding is_in_part
  in_first a m e = let q : nat_eq (turn_of x a) 0 ≡ true = eq-eqb (turn_of x a) 0 e in ap (λ z. cond z (nat_lt m N) (is_joined_from x (turn_of x a) a m)) q

  in_later : (a m : ℕ) → turn_of x a ≢ 0 → is_in_part x a m ≡ is_joined_from x (turn_of x a) a m
  unfolding is_in_part
  in_later a m d = let q : nat_eq (turn_of x a) 0 ≡ false = ne_eqb (turn_of x a) 0 d in ap (λ z. cond z (nat_lt m N) (is_joined_from x (turn_of x a) a m)) q

  pub part_all : (a m : ℕ) → turn_of x a ≡ 0 → m < N → IsIn m (nodes_in (part_of x a))
  part_all a m e l = (below_in N (is_in_part x a) m).1 (l, in_first a m e ∙ lt-ltb m N l)

  pub part_small : (a m : ℕ) → IsIn m (nodes_in (part_of x a)) → m < N
  part_small a m h = ((below_in N (is_in_part x a) m).0 h).0

  pub part_joined : (a m : ℕ) → turn_of x a ≢ 0 → IsIn m (nodes_in (part_of x a)) ↔ JoinedIn (turn_of x a) a m
  part_joined a m d = (
    (λ h. (from_is (turn_of x a) a m).0 (sym (in_later a m d) ∙ ((below_in N (is_in_part x a) m).0 h).1)),
    λ u. (below_in N (is_in_part x a) m).1 ((left_is (turn_of x a) m (last_in (turn_of x a) a m u)).0, in_later a m d ∙ (from_is (turn_of x a) a m).1 u),
  )

  -- no node of a part has an earlier turn than its head
  pub part_later : (a m : ℕ) → IsIn m (nodes_in (part_of x a)) → turn_of x a ≤ turn_of x m
  part_later a m h = elim (same_nat (turn_of x a) 0) [
    | inl e ↦ omega arith
    | inr d ↦ (left_is (turn_of x a) m (last_in (turn_of x a) a m ((part_joined a m d).0 h))).1
  ]

  pub part_here : (a : ℕ) → a < N → IsIn a (nodes_in (part_of x a))
  part_here a l = elim (same_nat (turn_of x a) 0) [
    | inl e ↦ part_all a a e l
    | inr d ↦ (part_joined a a d).1 (alone a (left_in (turn_of x a) a l (omega arith)))
  ]

  -- it has some components of the nodes whose turns aren't before that of its head
  pub part_components : (a : ℕ) → a < N → AreComponents x.net (In (nodes_in (part_of x a))) (Left (turn_of x a))
  part_components a small = record {
    inside = λ m h. left_in (turn_of x a) m (part_small a m h) (part_later a m h);
    closed = λ l m i j w h wire k. elim (same_nat (turn_of x a) 0) [
      | inl e ↦ part_all a m e (left_is (turn_of x a) m k).0
      | inr d ↦ (part_joined a m d).1 (link_join x.net (Left (turn_of x a)) (is_in (left x (turn_of x a))) a l m ((part_joined a l d).0 h)
          (onward l m m i j (last_in (turn_of x a) a l ((part_joined a l d).0 h)) (w, wire) (alone m k)))
    ];
  }

  -- .. and, once no more nodes are taken out, of those that are left
  pub part_left : (a : ℕ) → NamesPart x a → x.taken ≤ turn_of x a → AreComponents x.net (In (nodes_in (part_of x a))) (Left x.taken)
  part_left a (small, inl e) le =
      let same : turn_of x a ≡ x.taken = omega arith in
      subst (λ z. AreComponents x.net (In (nodes_in (part_of x a))) (Left z)) same (part_components a small)
  part_left a (small, inr r) le = record {
    inside = λ m h. let p = part_later a m h in left_in x.taken m (part_small a m h) (omega arith);
    closed = λ l m i j w h wire k. elim (same_nat (turn_of x a) 0) [
      | inl e ↦ part_all a m e (left_is x.taken m k).0
      | inr d ↦
          let t = r.0 in
          let from = (head_link t a l r.3).1 ((part_joined a l d).0 h) in
          (part_joined a m d).1 ((head_link t a m r.3).0 (link_join x.net (Left t) (is_in (left x t)) a l m from (onward l m m i j (last_in t a l from) (w, wire) (alone m (left_more t x.taken r.2 m k)))))
    ];
  }

  -- .. as its head is the first one of its component there
  pub head_left : (a : ℕ) → NamesPart x a → turn_of x a ≢ 0 → x.taken ≤ turn_of x a → IsHeadFrom x x.taken a
  head_left a (small, inl e) d le = absurd (d e)
  head_left a (small, inr r) d le = (
    left_in x.taken a small le,
    λ m u. r.3.1 m (link_map (open_graph x.net) (Left x.taken) (Left r.0) (left_more r.0 x.taken r.2) a m u),
  )

  -- ---- its rest

  pub rest_is : (a : ℕ) → IsRest a (part_of x a) (rest_of x a)
  rest_is a m = (to, from)
    where
      s : ℕ → Bool
      s u = is_in_part x a u && not (nat_eq u a)

      to : IsIn m (nodes_in (rest_of x a)) → Without a (nodes_in (part_of x a)) m
      to h =
          let r = (below_in N (λ u. is_in_part x a u && not (nat_eq u a)) m).0 h in
          ((below_in N (is_in_part x a) m).1 (r.0, both_left (is_in_part x a m) (not (nat_eq m a)) r.1), not_same m a (both_right (is_in_part x a m) (not (nat_eq m a)) r.1))

      from : Without a (nodes_in (part_of x a)) m → IsIn m (nodes_in (rest_of x a))
      from h =
          let r = (below_in N (is_in_part x a) m).0 h.0 in
          (below_in N (λ u. is_in_part x a u && not (nat_eq u a)) m).1 (r.0, and_from (is_in_part x a m) (not (nat_eq m a)) r.1 (is_not m a h.1))

  module _ (h : IsNodeTurns x) where
    pub same_turn : (l m : ℕ) → l < N → m < N → turn_of x l ≡ turn_of x m → l ≡ m
    same_turn l m a b e = sym (h.turn l a).1 ∙ ap (node_at x) e ∙ (h.turn m b).1

    -- the head is taken out first, or no node splits the part
    pub part_first : (a : ℕ) → a < N → turn_of x a < x.taken → IsFirstToSplit x.net a (nodes_in (part_of x a))
    part_first a small less =
        let f = subst (λ z. IsFirstToSplit x.net z (left x (turn_of x a))) (h.turn a small).1 (h.first (turn_of x a) less) in
        first_of_components x.net (nodes_in (part_of x a)) (left x (turn_of x a)) a (part_components a small) (part_here a small) f

    pub part_stuck : (a : ℕ) → NamesPart x a → x.taken ≤ turn_of x a → NoneSplits x.net (part_of x a) N
    part_stuck a head le m less here =
        let c = part_left a head le in
        h.stuck m (c.inside m here.0) (splits_larger x.net (nodes_in (part_of x a)) (left x x.taken) m c here.0 here.1)

    pub part_late : (a : ℕ) → a < N → NoneSplits x.net (part_of x a) N → x.taken ≤ turn_of x a
    part_late a small none = elim (at_most x.taken (turn_of x a)) [
      | inl le ↦ le
      | inr less ↦ let f = part_first a small less in absurd (none a small (f.here, f.splits))
    ]

    pub stuck_head : (a : ℕ) (part : HeadedPart) → NamesPart x a → headed x a ≡ part → NoneSplits part.net part.nodes (length part.net.nodes) → turn_of x a ≢ 0 → IsHeadFrom x x.taken a
    stuck_head a part head e none some =
        head_left a head some (part_late a head.0 (subst (λ (z : HeadedPart). NoneSplits z.net z.nodes (length z.net.nodes)) (sym e) none))

    -- a part that a node splits first is taken apart at its head
    pub part_taken : (a : ℕ) → NamesPart x a → IsFirstToSplit x.net a (nodes_in (part_of x a)) → turn_of x a < x.taken
    part_taken a head f = elim (at_most x.taken (turn_of x a)) [
      | inr l ↦ l
      | inl le ↦ absurd (part_stuck a head le a head.0 (f.here, f.splits))
    ]

    -- the nodes that come after
    pub after_components : (n : ℕ) → n < N → AreComponents x.net (In (nodes_in (rest_of x n))) (Left (suc (turn_of x n)))
    after_components n small = record {
      inside = λ m k.
          let r = (rest_is n m).0 k in
          let less = part_small n m r.0 in
          let p = part_later n m r.0 in
          elim (same_nat (turn_of x n) (turn_of x m)) [
            | inl e ↦ absurd (r.1 (sym (same_turn n m small less e)))
            | inr d ↦ left_in (suc (turn_of x n)) m less (omega arith)
          ];
      closed = λ l m i j w k wire g.
          let r = (rest_is n l).0 k in
          let q = left_is (suc (turn_of x n)) m g in
          (rest_is n m).1 ((part_components n small).closed l m i j w r.0 wire (left_more (turn_of x n) (suc (turn_of x n)) (omega arith) m g), λ e. let f : turn_of x m ≡ turn_of x n = ap (turn_of x) e in let q1 = q.1 in omega arith);
    }

    -- what a port leads to is in the rest
    pub touch_rest : (n i w l j : ℕ) → n < N → IsWire x.net w (Port n i) (Port l j) → Left (suc (turn_of x n)) l → IsIn l (nodes_in (rest_of x n))
    touch_rest n i w l j small wire g =
        let q = left_is (suc (turn_of x n)) l g in
        (rest_is n l).1 ((part_components n small).closed n l i j w (part_here n small) wire (left_more (turn_of x n) (suc (turn_of x n)) (omega arith) l g), λ e. let f : turn_of x l ≡ turn_of x n = ap (turn_of x) e in let q1 = q.1 in omega arith)

    pub other_rest : (n l : ℕ) → turn_of x n ≡ 0 → Left (suc (turn_of x n)) l → IsIn l (nodes_in (rest_of x n))
    other_rest n l e g =
        let q = left_is (suc (turn_of x n)) l g in
        (rest_is n l).1 (part_all n l e q.0, λ d. let f : turn_of x l ≡ turn_of x n = ap (turn_of x) d in let q1 = q.1 in omega arith)

    pub rest_link : (n l m : ℕ) → n < N → IsIn l (nodes_in (rest_of x n)) → JoinedIn (suc (turn_of x n)) l m ↔ Linked (open_graph x.net) (In (nodes_in (rest_of x n))) l m
    rest_link n l m small here = (
      link_within x.net (In (nodes_in (rest_of x n))) (Left (suc (turn_of x n))) (after_components n small) l m here,
      link_map (open_graph x.net) (In (nodes_in (rest_of x n))) (Left (suc (turn_of x n))) (after_components n small).inside l m,
    )
