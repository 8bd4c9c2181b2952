-- A node is put back: it becomes the head of the components that it meets, turn by turn.
use Rattle.std.proofs.Common.{Some, None, ◌↔◌, ◌≡◌, ◌≢◌, ◌⊎◌, ◌<◌, ◌≤◌, ◌+◌, ℕ, suc, List, [], ◌∷◌, ◌++◌, length, slice_index_or, slice_set, refl, sym, subst, ap, inl, inr, ◌∙◌, arith}
use Rattle.std.proofs.Math.ListN.{get_or-append, length-append, length-set}
use Rattle.std.proofs.Math.Seq.{get_or-append_seam}
use Rattle.in_open_nets.specs.declared.open_nets.OpenPoint.TheVariants.{Free, Port}
use Rattle.in_open_nets.specs.declared.open_nets.OpenPoint.{OpenPoint}
use Rattle.in_open_nets.specs.Constructions.{IsIn}
use Rattle.in_open_nets.specs.OpenNets.{OpenNet, IsOpenNet, IsWire, open_graph}
use Rattle.in_open_nets.specs.Splitting.{Linked, alone, onward}
use Rattle.in_open_nets.specs.Stuck.{ports_of, turn}
use Rattle.in_open_nets.proofs.Public.{at_other, at_set, in_ports, link_back, link_first, link_join, link_map, same_nat, turn_one_port, turn_one_port_most, wire_turn}
use Rattle.in_simple_deriving.specs.declared.heads.Met.{Met}
use Rattle.in_simple_deriving.specs.declared.heads.Met.TheVariants.{Head, Again, Gone}
use Rattle.in_simple_deriving.specs.Heads.{AreHeads, AreMetAfter, Climbs, LeadsEarlier, IsAtTurn, IsMeeting, IsMetBefore, IsPortAt, IsShorter, IsUp, JoinedAfter, MeetsAt, climbs, last_turn, stays, up_from}
use Rattle.in_simple_deriving.specs.Turns.{NodeOrder, IsHeadFrom, IsNodeTurns, left, turn_of}
use Rattle.in_simple_deriving.proofs.Fated.{at_turn_one, exits, more_turns, some_turns}
use Rattle.in_simple_deriving.proofs.HeadParts.{left_in, left_is, left_more, same_turn}
use Rattle.in_simple_deriving.proofs.Tests.{is_in}

climb_fixed : (up : List ℕ) (n a r : ℕ) → up_from up n ≡ n → a ≡ n → Climbs up a r → r ≡ n
climb_fixed up n a _ fixed e (stays _) = e
climb_fixed up n a r fixed e (climbs _ _ c) = climb_fixed up n (up_from up a) r fixed (ap (up_from up) e ∙ fixed) c

-- ---- the list of what is met

module _ (x : NodeOrder) (n : ℕ) where
  pub list_start : (old : List Met) → AreMetAfter x n old 0 old
  list_start old = record { size = omega arith; same = λ p l. refl; each = λ b l. absurd (omega arith) }

  pub list_more : (old new : List Met) (k : ℕ) (m : Met) → AreMetAfter x n old k new → MeetsAt x n k m → AreMetAfter x n old (k + 1) (new ++ m ∷ [])
  list_more old new k m a now = record {
    size = let e = length-append new (m ∷ []) in let s = a.size in omega arith;
    same = λ p l. let s = a.size in get_or-append new (m ∷ []) (Head 0) p (omega arith) ∙ a.same p l;
    each = λ b l. elim (same_nat b k) [
      | inl e ↦
          let at : length new ≡ length old + b = let s = a.size in omega arith in
          subst (λ z. MeetsAt x n b (slice_index_or (new ++ m ∷ []) z (Head 0))) at (subst (MeetsAt x n b) (sym (get_or-append_seam new m [] (Head 0))) (subst (λ z. MeetsAt x n z m) (sym e) now))
      | inr d ↦ let s = a.size in subst (MeetsAt x n b) (sym (get_or-append new (m ∷ []) (Head 0) (length old + b) (omega arith))) (a.each b (omega arith))
    ];
  }

module _ (x : NodeOrder) (h : IsNodeTurns x) (n : ℕ) where
  abbrev After : ℕ → Type 0
  After m = IsIn m (left x (suc (turn_of x n)))

  net : IsOpenNet x.net
  net = h.orderly.net

  after_small : (m : ℕ) → After m → m < length x.net.nodes
  after_small m g = (left_is x (suc (turn_of x n)) m g).0

  after_later : (m : ℕ) → After m → turn_of x n < turn_of x m
  after_later m g = let r = left_is x (suc (turn_of x n)) m g in let r1 = r.1 in omega arith

  after_other : (m : ℕ) → After m → m ≢ n
  after_other m g e = let l = after_later m g in let f : turn_of x m ≡ turn_of x n = ap (turn_of x) e in omega arith

  dec : (m : ℕ) → After m ⊎ (After m → ⊥)
  dec = is_in (left x (suc (turn_of x n)))

  back : (l m : ℕ) → JoinedAfter x n l m → JoinedAfter x n m l
  back l m u = link_back x.net After dec l m u

  joined : (l m k : ℕ) → JoinedAfter x n l m → JoinedAfter x n m k → JoinedAfter x n l k
  joined l m k u v = link_join x.net After dec l m k u v

  last_after : (l m : ℕ) → JoinedAfter x n l m → After m
  last_after l m u = link_first (open_graph x.net) After m l (back l m u)

  met_on : (k a c : ℕ) → JoinedAfter x n a c → IsMetBefore x n k a → IsMetBefore x n k c
  met_on k a c u m = (m.0, m.1, m.2, m.3, joined m.1 a c m.4 u)

  met_up : (k m : ℕ) → IsMetBefore x n k m → IsMetBefore x n (k + 1) m
  met_up k m g = let l = g.2 in (g.0, g.1, omega arith, g.3, g.4)

  met_cases : (k m : ℕ) → IsMetBefore x n (k + 1) m → IsMetBefore x n k m ⊎ ((l : ℕ) × IsAtTurn x.net n k l × JoinedAfter x n l m)
  met_cases k m g = elim (same_nat g.0 k) [
    | inl e ↦ inr (g.1, subst (λ z. IsAtTurn x.net n z g.1) e g.3, g.4)
    | inr d ↦ let l = g.2 in inl (g.0, g.1, omega arith, g.3, g.4)
  ]

  pub meets_start : (up : List ℕ) → n < length x.net.nodes → IsUp x (suc (turn_of x n)) up → IsMeeting x n 0 (slice_set up n n)
  meets_start up small u = record {
    node = small;
    size = length-set up n n ∙ u.size;
    itself = here;
    goes = λ m l. elim (same_nat m n) [
      | inl e ↦
          let f : up_from (slice_set up n n) m ≡ m = ap (up_from (slice_set up n n)) e ∙ here ∙ sym e in
          (subst (λ z. z < length (slice_set up n n)) (sym f) l, inl f)
      | inr d ↦
          let size = length-set up n n in
          let g = u.goes m (omega arith) in
          subst (λ z. (z < length (slice_set up n n)) × ((z ≡ m) ⊎ (turn_of x z < turn_of x m))) (sym (other m d)) (let g0 = g.0 in omega arith, g.1)
    ];
    leads = λ m g. inr (subst (JoinedAfter x n m) (sym (other m (after_other m g))) (u.leads m g));
    heads = λ m g e. (u.heads m g (sym (other m (after_other m g)) ∙ e), λ met. let l = met.2 in omega arith);
  }
    where
      here : up_from (slice_set up n n) n ≡ n
      here = at_set up n n 0 n (let size = u.size in omega arith) refl

      other : (m : ℕ) → m ≢ n → up_from (slice_set up n n) m ≡ up_from up m
      other m d = at_other up n n 0 m d

  module _ (k : ℕ) (up : List ℕ) (m0 : IsMeeting x n k up) where
    -- where a climb ends
    pub climb_leads : (l r : ℕ) → After l → Climbs up l r → ((r ≡ n) × IsMetBefore x n k l) ⊎ JoinedAfter x n l r
    climb_leads l _ g (stays _) = inr (alone l g)
    climb_leads l r g (climbs _ _ c) = elim (m0.leads l g) [
      | inl a ↦ inl (climb_fixed up n (up_from up l) r m0.itself a.0 c, a.1)
      | inr a ↦ elim (climb_leads (up_from up l) r (last_after l (up_from up l) a) c) [
        | inl b ↦ inl (b.0, met_on k (up_from up l) l (back l (up_from up l) a) b.1)
        | inr b ↦ inr (joined l (up_from up l) r a b)
      ]
    ]

    pub meets_shorter : (up' : List ℕ) → IsShorter up up' → LeadsEarlier x.turns up' → IsMeeting x n k up'
    meets_shorter up' s goes = record {
      node = m0.node;
      size = s.size ∙ m0.size;
      itself = s.stay n m0.itself;
      goes = goes;
      leads = λ m g. climb_leads m (up_from up' m) g (s.past m);
      heads = λ m g e. m0.heads m g (s.tops m e);
    }

    -- nothing new is met
    pub meets_same : ((l : ℕ) → IsAtTurn x.net n k l → After l → IsMetBefore x n k l) → IsMeeting x n (k + 1) up
    meets_same none = record {
      node = m0.node;
      size = m0.size;
      itself = m0.itself;
      goes = m0.goes;
      leads = λ m g. elim (m0.leads m g) [ inl a ↦ inl (a.0, met_up k m a.1) | inr a ↦ inr a ];
      heads = λ m g e. let r = m0.heads m g e in (
        r.0,
        λ met. elim (met_cases k m met) [
          | inl a ↦ r.1 a
          | inr a ↦ r.1 (met_on k a.0 m a.2 (none a.0 a.1 (link_first (open_graph x.net) After a.0 m a.2)))
        ],
      );
    }

    -- a component is met for the first time
    module _ (near r : ℕ) (at : IsAtTurn x.net n k near) (joins : JoinedAfter x n near r) (top : up_from up r ≡ r) where
      r_after : After r
      r_after = last_after near r joins

      r_small : r < length up
      r_small = let l = after_small r r_after in let size = m0.size in omega arith

      pub meets_met : MeetsAt x n k (Head r)
      meets_met = let q = m0.heads r r_after top in (near, at, joins, q.0, λ met. q.1 (met_on k near r joins met))

      pub meets_new : IsMeeting x n (k + 1) (slice_set up r n)
      meets_new = record {
        node = m0.node;
        size = length-set up r n ∙ m0.size;
        itself = other n (λ e. after_other r r_after (sym e)) ∙ m0.itself;
        goes = λ m l. elim (same_nat m r) [
          | inl e ↦
              let f : up_from (slice_set up r n) m ≡ n = ap (up_from (slice_set up r n)) e ∙ here in
              let size = length-set up r n in
              let some = m0.node in
              let all = m0.size in
              let early : turn_of x n < turn_of x m = subst (λ z. turn_of x n < turn_of x z) (sym e) (after_later r r_after) in
              (subst (λ z. z < length (slice_set up r n)) (sym f) (omega arith), inr (subst (λ z. turn_of x z < turn_of x m) (sym f) early))
          | inr d ↦
              let size = length-set up r n in
              let g = m0.goes m (omega arith) in
              subst (λ z. (z < length (slice_set up r n)) × ((z ≡ m) ⊎ (turn_of x z < turn_of x m))) (sym (other m d)) (let g0 = g.0 in omega arith, g.1)
        ];
        leads = λ m g. elim (same_nat m r) [
          | inl e ↦ inl (ap (up_from (slice_set up r n)) e ∙ here, (k, near, omega arith, at, subst (JoinedAfter x n near) (sym e) joins))
          | inr d ↦ elim (m0.leads m g) [
            | inl a ↦ inl (other m d ∙ a.0, met_up k m a.1)
            | inr a ↦ inr (subst (JoinedAfter x n m) (sym (other m d)) a)
          ]
        ];
        heads = λ m g e. elim (same_nat m r) [
          | inl f ↦ absurd (after_other m g (sym e ∙ ap (up_from (slice_set up r n)) f ∙ here))
          | inr d ↦
              let q = m0.heads m g (sym (other m d) ∙ e) in (
                q.0,
                λ met. elim (met_cases k m met) [
                  | inl a ↦ q.1 a
                  | inr a ↦
                      let one = at_turn_one x.net net n k a.0 near a.1 at in
                      let to : JoinedAfter x n near m = subst (λ z. JoinedAfter x n z m) one a.2 in
                      let first = (m0.heads r r_after top).0.1 m (joined r near m (back near r joins) to) in
                      let other' = q.0.1 r (joined m near r (back near m to) joins) in
                      d (same_turn x h m r (after_small m g) (after_small r r_after) (omega arith))
                ],
              )
        ];
      }
        where
          here : up_from (slice_set up r n) r ≡ n
          here = at_set up r n 0 r r_small refl

          other : (m : ℕ) → m ≢ r → up_from (slice_set up r n) m ≡ up_from up m
          other m d = at_other up r n 0 m d

  -- the node at this turn
  module _ (k : ℕ) (up : List ℕ) (m0 : IsMeeting x n k up) (near : ℕ) (at : IsAtTurn x.net n k near) where
    pub meet_gone : turn_of x near ≤ turn_of x n → IsMeeting x n (k + 1) up × MeetsAt x n k Gone
    meet_gone before = (meets_same k up m0 (λ l at' g. absurd (none l at' g)), none)
      where
        none : (l : ℕ) → IsAtTurn x.net n k l → After l → ⊥
        none l at' g = let e = at_turn_one x.net net n k l near at' at in let late = after_later l g in let f : turn_of x l ≡ turn_of x near = ap (turn_of x) e in omega arith

    module _ (small : near < length x.net.nodes) (later : turn_of x n < turn_of x near) (up' : List ℕ) (r : ℕ) (climb : Climbs up near r) (short : IsShorter up up') (goes : LeadsEarlier x.turns up') where
      near_after : After near
      near_after = left_in x (suc (turn_of x n)) near small (omega arith)

      pub meet_again : r ≡ n → IsMeeting x n (k + 1) up' × MeetsAt x n k Again
      meet_again e =
          let met : IsMetBefore x n k near = elim (climb_leads k up m0 near r near_after climb) [
            | inl a ↦ a.1
            | inr a ↦ absurd (after_other r (last_after near r a) e)
          ] in
          (meets_same k up' (meets_shorter k up m0 up' short goes) (λ l at' g. subst (IsMetBefore x n k) (at_turn_one x.net net n k near l at at') met), (near, at, met))

      pub meet_head : r ≢ n → up_from up r ≡ r → IsMeeting x n (k + 1) (slice_set up' r n) × MeetsAt x n k (Head r)
      meet_head d top =
          let joins : JoinedAfter x n near r = elim (climb_leads k up m0 near r near_after climb) [
            | inl a ↦ absurd (d a.0)
            | inr a ↦ a
          ] in
          let m1 = meets_shorter k up m0 up' short goes in
          (meets_new k up' m1 near r at joins (short.stay r top), meets_met k up' m1 near r at joins (short.stay r top))

  abbrev Off : ℕ → Type 0
  Off k = IsIn k (left x (turn_of x n)) × (k ≢ n)

  off_after : n < length x.net.nodes → (k : ℕ) → Off k → After k
  off_after small k g =
      let r = left_is x (turn_of x n) k g.0 in
      let r1 = r.1 in
      elim (same_nat (turn_of x n) (turn_of x k)) [
        | inl e ↦ absurd (g.1 (sym (same_turn x h n k small r.0 e)))
        | inr d ↦ left_in x (suc (turn_of x n)) k r.0 (omega arith)
      ]

  -- all turns are over
  pub meets_end : (up : List ℕ) → IsMeeting x n (last_turn x n) up → 0 < turn_of x n → IsUp x (turn_of x n) up
  meets_end up m0 later = record {
    size = m0.size;
    goes = m0.goes;
    leads = λ m g. elim (cases m g) [
      | inl e ↦ subst (λ z. Linked (open_graph x.net) (λ u. IsIn u (left x t)) z (up_from up z)) (sym e) (subst (Linked (open_graph x.net) (λ u. IsIn u (left x t)) n) (sym m0.itself) (alone n own))
      | inr a ↦ elim (m0.leads m a) [
        | inl b ↦ subst (Linked (open_graph x.net) (λ u. IsIn u (left x t)) m) (sym b.0) (to_n m b.1)
        | inr b ↦ link_map (open_graph x.net) After (λ u. IsIn u (left x t)) to_left m (up_from up m) b
      ]
    ];
    heads = λ m g e. elim (cases m g) [
      | inl f ↦ subst (IsHeadFrom x t) (sym f) (own, λ l u. (left_is x t l (link_first (open_graph x.net) (λ u. IsIn u (left x t)) l n (link_back x.net (λ u. IsIn u (left x t)) (is_in (left x t)) n l u))).1)
      | inr a ↦ let q = m0.heads m a e in (
        g,
        λ l u. elim (exits x.net (λ u. IsIn u (left x t)) n l m (link_back x.net (λ u. IsIn u (left x t)) (is_in (left x t)) m l u) (after_other m a)) [
          | inl y ↦ q.0.1 l (back l m (link_map (open_graph x.net) Off After (off_after m0.node) l m y))
          | inr y ↦
              let few = turn_one_port_most x.net net n y.0 (in_ports x.net net y.1 n y.0 (Port y.2 y.3) y.4) in
              let some = some_turns x n in
              absurd (q.1 (turn x.net n y.0, y.2, omega arith, inl (y.0, y.1, y.3, y.4, refl), link_map (open_graph x.net) Off After (off_after m0.node) y.2 m y.5))
        ],
      )
    ];
  }
    where
      t : ℕ
      t = turn_of x n

      own : IsIn n (left x t)
      own = left_in x t n m0.node (omega arith)

      to_left : (m : ℕ) → After m → IsIn m (left x t)
      to_left m g = left_more x t (suc t) (omega arith) m g

      cases : (m : ℕ) → IsIn m (left x t) → (m ≡ n) ⊎ After m
      cases m g = elim (same_nat m n) [ inl e ↦ inl e | inr d ↦ inr (off_after m0.node m (g, d)) ]

      to_n : (m : ℕ) → IsMetBefore x n (last_turn x n) m → Linked (open_graph x.net) (λ u. IsIn u (left x t)) m n
      to_n m met = go met.3
        where
          on : Linked (open_graph x.net) (λ u. IsIn u (left x t)) m met.1
          on = link_map (open_graph x.net) After (λ u. IsIn u (left x t)) to_left m met.1 (back met.1 m met.4)

          go : IsAtTurn x.net n met.0 met.1 → Linked (open_graph x.net) (λ u. IsIn u (left x t)) m n
          go (inl a) = link_join x.net (λ u. IsIn u (left x t)) (is_in (left x t)) m met.1 n on
              (onward met.1 n n a.2 a.0 (to_left met.1 (link_first (open_graph x.net) After met.1 m met.4)) (a.1, wire_turn x.net a.1 (Port n a.0) (Port met.1 a.2) a.3) (alone n own))
          go (inr a) = let zero = more_turns x n met.0 met.2 (omega arith) in absurd (omega arith)

  pub heads_more : (first : List ℕ) (old new : List Met) → n < length x.net.nodes → AreHeads x (suc (turn_of x n)) first old → AreMetAfter x n old (last_turn x n) new → AreHeads x (turn_of x n) (slice_set first n (length old)) new
  heads_more first old new small a l = record {
    size = length-set first n (length old) ∙ a.size;
    room = λ m g. elim (same_nat m n) [
      | inl e ↦
          let f : slice_index_or (slice_set first n (length old)) m 0 ≡ length old = ap (λ z. slice_index_or (slice_set first n (length old)) z 0) e ∙ here in
          let s = l.size in
          let u : last_turn x m ≡ last_turn x n = ap (last_turn x) e in
          omega arith
      | inr d ↦ let r = a.room m (off_after small m (g, d)) in let f = other m d in let s = l.size in omega arith
    ];
    each = λ m k g less. elim (same_nat m n) [
      | inl e ↦
          subst (λ z. MeetsAt x z k (slice_index_or new (slice_index_or (slice_set first n (length old)) z 0 + k) (Head 0))) (sym e)
          (subst (λ z. MeetsAt x n k (slice_index_or new (z + k) (Head 0))) (sym here) (l.each k (subst (λ z. k < last_turn x z) e less)))
      | inr d ↦
          let after = off_after small m (g, d) in
          let r = a.room m after in
          subst (λ z. MeetsAt x m k (slice_index_or new (z + k) (Head 0))) (sym (other m d))
          (subst (MeetsAt x m k) (sym (l.same (slice_index_or first m 0 + k) (omega arith))) (a.each m k after less))
    ];
  }
    where
      here : slice_index_or (slice_set first n (length old)) n 0 ≡ length old
      here = at_set first n (length old) 0 n (let s = a.size in omega arith) refl

      other : (m : ℕ) → m ≢ n → slice_index_or (slice_set first n (length old)) m 0 ≡ slice_index_or first m 0
      other m d = at_other first n (length old) 0 m d

-- no node has a turn past the last one
none_past : (x : NodeOrder) → IsNodeTurns x → (n : ℕ) → IsIn n (left x (length x.nodes)) → ⊥
none_past x h n g = let r = left_is x (length x.nodes) n g in let r1 = r.1 in let t = (h.turn n r.0).0 in omega arith

pub heads_none : (x : NodeOrder) (first : List ℕ) → IsNodeTurns x → length first ≡ length x.net.nodes → AreHeads x (length x.nodes) first []
heads_none x first h size = record {
  size = size;
  room = λ n g. absurd (none_past x h n g);
  each = λ n k g l. absurd (none_past x h n g);
}

pub up_none : (x : NodeOrder) (up : List ℕ) → IsNodeTurns x → length up ≡ length x.net.nodes → LeadsEarlier x.turns up → IsUp x (length x.nodes) up
up_none x up h size goes = record {
  size = size;
  goes = goes;
  leads = λ n g. absurd (none_past x h n g);
  heads = λ n g e. absurd (none_past x h n g);
}

-- turns with no node
pub no_port : (o : OpenNet) (net : IsOpenNet o) (n k : ℕ) → k ≤ ports_of o n → IsPortAt o n k None → (l : ℕ) → IsAtTurn o n k l → ⊥
no_port o net n k few none l (inl a) = none a.0 (in_ports o net a.1 n a.0 (Port l a.2) a.3) a.4
no_port o net n k few none l (inr a) = omega arith

pub no_node : (o : OpenNet) (net : IsOpenNet o) (n k i w e : ℕ) → k ≤ ports_of o n → IsPortAt o n k (Some i) → IsWire o w (Port n i) (Free e) → (l : ℕ) → IsAtTurn o n k l → ⊥
no_node o net n k i w e few port wire l (inl a) =
    let f = turn_one_port o net n a.0 i (in_ports o net a.1 n a.0 (Port l a.2) a.3) port.0 (a.4 ∙ sym port.1) in
    let same : IsWire o a.1 (Port n i) (Port l a.2) = subst (λ z. IsWire o a.1 (Port n z) (Port l a.2)) f a.3 in
    let g : ◌≡◌ {A = OpenPoint} (Free e) (Port l a.2) = (net.once w a.1 (Port n i) (Free e) (Port l a.2) wire same).1 in
    cc
no_node o net n k i w e few port wire l (inr a) = omega arith

-- ---- the components of the nodes that are back

module _ (x : NodeOrder) (h : IsNodeTurns x) (t : ℕ) (up : List ℕ) (u : IsUp x t up) where
  abbrev Back : ℕ → Type 0
  Back m = IsIn m (left x t)

  climb_back : (l r : ℕ) → Back l → Climbs up l r → Linked (open_graph x.net) Back l r
  climb_back l _ g (stays _) = alone l g
  climb_back l r g (climbs _ _ c) =
      let one = u.leads l g in
      let there = link_first (open_graph x.net) Back (up_from up l) l (link_back x.net Back (is_in (left x t)) l (up_from up l) one) in
      link_join x.net Back (is_in (left x t)) l (up_from up l) r one (climb_back (up_from up l) r there c)

  pub up_shorter : (up' : List ℕ) → IsShorter up up' → LeadsEarlier x.turns up' → IsUp x t up'
  up_shorter up' s goes = record {
    size = s.size ∙ u.size;
    leads = λ m g. climb_back m (up_from up' m) g (s.past m);
    goes = goes;
    heads = λ m g e. u.heads m g (s.tops m e);
  }

  pub joined_head : (l r head : ℕ) → IsHeadFrom x t head → Back l → Climbs up l r → up_from up r ≡ r → (r ≡ head) ↔ Linked (open_graph x.net) Back head l
  joined_head l r head own g c top = (
    (λ e. link_back x.net Back (is_in (left x t)) l head (subst (Linked (open_graph x.net) Back l) e to)),
    λ v.
        let on = link_join x.net Back (is_in (left x t)) head l r v to in
        let there = link_first (open_graph x.net) Back r head (link_back x.net Back (is_in (left x t)) head r on) in
        let first = (u.heads r there top).1 head (link_back x.net Back (is_in (left x t)) head r on) in
        let second = own.1 r on in
        same_turn x h r head (left_is x t r there).0 (left_is x t head own.0).0 (omega arith),
  )
    where
      to : Linked (open_graph x.net) Back l r
      to = climb_back l r g c
