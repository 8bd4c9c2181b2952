-- What a node meets at a turn among the nodes that come after it is the fate of the component there.
use Rattle.std.proofs.Common.{◌≡◌, ◌≢◌, ◌⊎◌, ◌↔◌, ◌<◌, ◌≤◌, ◌+◌, ℕ, zero, suc, Bool, false, length, refl, sym, subst, ap, inl, inr, ◌∙◌, arith}
use Rattle.std.proofs.lemmas.Bool.{false_from_ne_true}
use Rattle.in_open_nets.specs.declared.open_nets.OpenPoint.{OpenPoint}
use Rattle.in_open_nets.specs.declared.open_nets.OpenPoint.TheVariants.{Port, Free}
use Rattle.in_open_nets.specs.Constructions.{IsIn}
use Rattle.in_open_nets.specs.Derivations.{is_port_in}
use Rattle.in_open_nets.specs.Members.{nodes_in}
use Rattle.in_open_nets.specs.OpenNets.{OpenNet, IsWire, IsOpenNet, open_graph}
use Rattle.in_open_nets.specs.Splitting.{Linked, alone, onward, Without}
use Rattle.in_open_nets.specs.Stuck.{ComesAt, IsPart, ports_of, turn}
use Rattle.in_open_nets.proofs.Public.{comes_at, component, in_ports, is_component, link_back, link_first, link_join, link_map, linked, port_no, port_place, same_nat, test_yes, turn_one_port, turn_one_port_most}
use Rattle.in_simple_deriving.specs.declared.heads.Met.TheVariants.{Head, Again, Gone}
use Rattle.in_simple_deriving.specs.declared.plans.Fate.{Fate}
use Rattle.in_simple_deriving.specs.declared.plans.Fate.TheVariants.{Waits, Derived, Outside}
use Rattle.in_simple_deriving.specs.Heads.{IsAtTurn, IsMetBefore, JoinedAfter, MeetsAt, last_turn}
use Rattle.in_simple_deriving.specs.Planned.{HasFate, HasFateAt, HasFateOfTurn, IsComponentOf}
use Rattle.in_simple_deriving.specs.Procedure.{IsPlanAtTurn}
use Rattle.in_simple_deriving.specs.TaskStates.{TaskState}
use Rattle.in_simple_deriving.specs.Turns.{NodeOrder, IsHeadFrom, IsNodeTurns, headed, is_in_part, left, part_of, rest_of, turn_of}
use Rattle.in_simple_deriving.proofs.HeadParts.{after_components, head_link, left_in, left_is, other_rest, part_joined, rest_is, rest_link, same_turn, touch_rest}
use Rattle.in_simple_deriving.proofs.Planning.{in_net}
use Rattle.in_simple_deriving.proofs.Tests.{below_many, is_in}

-- the last step out of n on a way from it
pub exits : (o : OpenNet) (P : ℕ → Type 0) (n u m : ℕ) → Linked (open_graph o) P u m → m ≢ n → Linked (open_graph o) (λ k. P k × (k ≢ n)) u m ⊎ ((i : ℕ) × (w : ℕ) × (l : ℕ) × (j : ℕ) × IsWire o w (Port n i) (Port l j) × Linked (open_graph o) (λ k. P k × (k ≢ n)) l m)
exits o P n u m (alone _ h) d = inl (alone u (h, d))
exits o P n u m (onward _ v _ i j h w r) d = elim (exits o P n v m r d) [
  | inr x ↦ inr x
  | inl x ↦ elim (same_nat u n) [
    | inl e ↦ inr (i, w.0, v, j, subst (λ z. IsWire o w.0 (Port z i) (Port v j)) e w.1, x)
    | inr g ↦ inl (onward u v m i j (h, g) w x)
  ]
]

-- after its ports a node has more turns only if it is the first one
pub more_turns : (x : NodeOrder) (n k : ℕ) → k < last_turn x n → ports_of x.net n < k → turn_of x n ≡ 0
more_turns x n k less more = go (turn_of x n) less
  where
    go : (t : ℕ) → k < elim t [ zero ↦ suc (ports_of x.net n) + length x.net.nodes | suc t ↦ suc (ports_of x.net n) ] → t ≡ 0
    go zero l = refl
    go (suc t) l = absurd (omega arith)

pub first_turns : (x : NodeOrder) (n : ℕ) → turn_of x n ≡ 0 → last_turn x n ≡ suc (ports_of x.net n) + length x.net.nodes
first_turns x n e = ap (λ t. elim t [ zero ↦ suc (ports_of x.net n) + length x.net.nodes | suc t ↦ suc (ports_of x.net n) ]) e

pub some_turns : (x : NodeOrder) (n : ℕ) → suc (ports_of x.net n) ≤ last_turn x n
some_turns x n = go (turn_of x n)
  where
    go : (t : ℕ) → suc (ports_of x.net n) ≤ elim t [ zero ↦ suc (ports_of x.net n) + length x.net.nodes | suc t ↦ suc (ports_of x.net n) ]
    go zero = omega arith
    go (suc t) = omega arith

module _ (o : OpenNet) (net : IsOpenNet o) (n : ℕ) where
  -- a turn has one node
  pub at_turn_one : (k l m : ℕ) → IsAtTurn o n k l → IsAtTurn o n k m → l ≡ m
  at_turn_one k l m (inl a) (inl b) =
      let e = turn_one_port o net n a.0 b.0 (in_ports o net a.1 n a.0 (Port l a.2) a.3) (in_ports o net b.1 n b.0 (Port m b.2) b.3) (a.4 ∙ sym b.4) in
      let wire : IsWire o a.1 (Port n b.0) (Port l a.2) = subst (λ z. IsWire o a.1 (Port n z) (Port l a.2)) e a.3 in
      (port_place l m a.2 b.2 (net.once a.1 b.1 (Port n b.0) (Port l a.2) (Port m b.2) wire b.3).1).0
  at_turn_one k l m (inl a) (inr b) = let few = turn_one_port_most o net n a.0 (in_ports o net a.1 n a.0 (Port l a.2) a.3) in let e = a.4 in absurd (omega arith)
  at_turn_one k l m (inr a) (inl b) = let few = turn_one_port_most o net n b.0 (in_ports o net b.1 n b.0 (Port m b.2) b.3) in let e = b.4 in absurd (omega arith)
  at_turn_one k l m (inr a) (inr b) = omega arith

module _ (x : NodeOrder) (h : IsNodeTurns x) (n : ℕ) (small : n < length x.net.nodes) where
  abbrev Rest : ℕ → Type 0
  Rest m = IsIn m (nodes_in (rest_of x n))

  abbrev After : ℕ → Type 0
  After m = IsIn m (left x (suc (turn_of x n)))

  rest_after : (m : ℕ) → Rest m → After m
  rest_after m k = (after_components x h n small).inside m k

  -- a node that n meets is in the rest
  met_rest : (k l : ℕ) → k < last_turn x n → IsAtTurn x.net n k l → After l → Rest l
  met_rest k l less (inl a) g = touch_rest x h n a.0 a.1 l a.2 small a.3 g
  met_rest k l less (inr a) g = other_rest x h n l (more_turns x n k less (omega arith)) g

  joined_rest : (l m : ℕ) → Rest l → JoinedAfter x n l m → Linked (open_graph x.net) Rest l m
  joined_rest l m here u = (rest_link x h n l m small here).0 u

  out_of : (m : ℕ) → Rest m → m ≢ n
  out_of m k = ((rest_is x n m).0 k).1

  -- links in the rest, as the parts have them
  to_without : (l m : ℕ) → Linked (open_graph x.net) Rest l m → Linked (open_graph x.net) (Without n (nodes_in (rest_of x n))) l m
  to_without l m u = link_map (open_graph x.net) Rest (Without n (nodes_in (rest_of x n))) (λ k g. (g, out_of k g)) l m u

  of_without : (l m : ℕ) → Linked (open_graph x.net) (Without n (nodes_in (rest_of x n))) l m → Linked (open_graph x.net) Rest l m
  of_without l m u = link_map (open_graph x.net) (Without n (nodes_in (rest_of x n))) Rest (λ k g. g.0) l m u

  module _ (k : ℕ) (less : k < last_turn x n) (p : TaskState) (same : p.net ≡ x.net) (own : p.node ≡ n) (is_rest : p.rest ≡ rest_of x n) (plan : IsPlanAtTurn x.net n k p) where
    net : IsOpenNet x.net
    net = h.orderly.net

    inside : (m : ℕ) → IsIn m (nodes_in p.rest) → m < length x.net.nodes
    inside = in_net x.net net n k p plan

    to_plan : (m : ℕ) → Rest m → IsIn m (nodes_in p.rest)
    to_plan m g = subst (λ z. IsIn m (nodes_in z)) (sym is_rest) g

    of_plan : (m : ℕ) → IsIn m (nodes_in p.rest) → Rest m
    of_plan m g = subst (λ z. IsIn m (nodes_in z)) is_rest g

    -- a derived node's component was met before
    done_met : (l : ℕ) → IsIn l (nodes_in p.done) → IsMetBefore x n k l
    done_met l g = go y.3
      where
        y : (d : ℕ → Bool) × (t : ℕ) × IsPart x.net n (nodes_in p.rest) d × ComesAt x.net n d t × (t < k) × IsIn l d
        y = (plan.done l).0 g

        part : IsPart x.net n (nodes_in (rest_of x n)) y.0
        part = subst (λ z. IsPart x.net n (nodes_in z) y.0) is_rest y.2

        both : (a : ℕ) → IsIn a y.0 → JoinedAfter x n a l
        both a here =
            let W = Without n (nodes_in (rest_of x n)) in
            let to : Linked (open_graph x.net) W part.0 a = (part.2 a).0 here in
            let on : Linked (open_graph x.net) W part.0 l = (part.2 l).0 y.5 in
            let back = link_back x.net Rest (is_in (nodes_in (rest_of x n))) part.0 a (of_without part.0 a to) in
            link_map (open_graph x.net) Rest After rest_after a l (link_join x.net Rest (is_in (nodes_in (rest_of x n))) a part.0 l back (of_without part.0 l on))

        go : ComesAt x.net n y.0 y.1 → IsMetBefore x n k l
        go (inl c) = let t = c.1 in (y.1, t.1, y.4, inl (c.0, t.0, t.2, t.3, c.2), both t.1 t.4)
        go (inr c) = let t = c.1 in (y.1, t.0, y.4, inr t.2, both t.0 t.1)

    -- .. and a component that was met before is derived
    met_done : (l : ℕ) → Rest l → IsMetBefore x n k l → IsIn l (nodes_in p.done)
    met_done l here met = (plan.done l).1 (d, q.0, part, q.1, earlier met.3 q.1, mine)
      where
        s : ℕ → Bool
        s = nodes_in p.rest

        d : ℕ → Bool
        d = component x.net net s inside n l

        part : IsPart x.net n s d
        part = is_component x.net net s inside n l (to_plan l here, out_of l here)

        mine : IsIn l d
        mine = test_yes (linked x.net net s inside n l l) (alone l (to_plan l here, out_of l here))

        q : (t : ℕ) × ComesAt x.net n d t
        q = comes_at x.net net s inside n d l mine (inside l (to_plan l here))

        first : Rest met.1
        first = met_rest met.0 met.1 (let b = met.2 in omega arith) met.3 (link_first (open_graph x.net) After met.1 l met.4)

        there : IsIn met.1 d
        there =
            let u = joined_rest met.1 l first met.4 in
            let back = link_back x.net Rest (is_in (nodes_in (rest_of x n))) met.1 l u in
            test_yes (linked x.net net s inside n l met.1) (subst (λ z. Linked (open_graph x.net) (Without n (nodes_in z)) l met.1) (sym is_rest) (to_without l met.1 back))

        earlier : IsAtTurn x.net n met.0 met.1 → ComesAt x.net n d q.0 → q.0 < k
        earlier (inl a) (inl c) = let low = c.3 a.0 (a.1, met.1, a.2, a.3, there) in let e = a.4 in let b = met.2 in omega arith
        earlier (inl a) (inr c) = absurd (c.0 a.0 (a.1, met.1, a.2, a.3, there))
        earlier (inr a) (inl c) =
            let t = c.1 in
            let few = turn_one_port_most x.net net n c.0 (in_ports x.net net t.0 n c.0 (Port t.1 t.2) t.3) in
            let e = c.2 in
            let b = met.2 in
            omega arith
        earlier (inr a) (inr c) = let t = c.1 in let low = t.3 met.1 there in let e = t.2 in let b = met.2 in omega arith

    -- the node at a port's turn
    at_port : (i w l : ℕ) (q : OpenPoint) → IsWire x.net w (Port n i) q → turn x.net n i ≡ k → IsAtTurn x.net n k l → (j : ℕ) × (q ≡ Port l j)
    at_port i w l q wire at (inl a) =
        let e = turn_one_port x.net net n a.0 i (in_ports x.net net a.1 n a.0 (Port l a.2) a.3) (in_ports x.net net w n i q wire) (a.4 ∙ sym at) in
        let wire' : IsWire x.net a.1 (Port n i) (Port l a.2) = subst (λ z. IsWire x.net a.1 (Port n z) (Port l a.2)) e a.3 in
        (a.2, (net.once w a.1 (Port n i) q (Port l a.2) wire wire').1)
    at_port i w l q wire at (inr a) = let few = turn_one_port_most x.net net n i (in_ports x.net net w n i q wire) in absurd (omega arith)

    -- the part with a head, as the component of a node
    part_is : (a l : ℕ) → Rest l → JoinedAfter x n l a → IsHeadFrom x (suc (turn_of x n)) a → IsComponentOf p l (headed x a)
    part_is a l here u head = (
      sym same,
      below_many (length x.net.nodes) (is_in_part x a) ∙ ap (λ z. length z.nodes) (sym same),
      λ m. subst (λ z. IsIn m (nodes_in (part_of x a)) ↔ Linked (open_graph z) (λ v. IsIn v (nodes_in p.rest)) l m) (sym same)
          (subst (λ z. IsIn m (nodes_in (part_of x a)) ↔ Linked (open_graph x.net) (λ v. IsIn v (nodes_in z)) l m) (sym is_rest) (to m, from m)),
    )
      where
        later : turn_of x a ≢ 0
        later e = let r = left_is x (suc (turn_of x n)) a head.0 in let r1 = r.1 in omega arith

        dec : (v : ℕ) → (After v) ⊎ (After v → ⊥)
        dec = is_in (left x (suc (turn_of x n)))

        to : (m : ℕ) → IsIn m (nodes_in (part_of x a)) → Linked (open_graph x.net) Rest l m
        to m g = joined_rest l m here (link_join x.net After dec l a m u ((head_link x (suc (turn_of x n)) a m head).1 ((part_joined x a m later).0 g)))

        from : (m : ℕ) → Linked (open_graph x.net) Rest l m → IsIn m (nodes_in (part_of x a))
        from m g = (part_joined x a m later).1 ((head_link x (suc (turn_of x n)) a m head).0 (link_join x.net After dec a l m (link_back x.net After dec l a u) (link_map (open_graph x.net) Rest After rest_after l m g)))

    undone : (l : ℕ) → (IsMetBefore x n k l → ⊥) → nodes_in p.done l ≡ false
    undone l none = false_from_ne_true (nodes_in p.done l) (λ g. none (done_met l g))

    abbrev Fated : Fate → Type 0
    Fated f = ((i w : ℕ) (q : OpenPoint) → IsWire x.net w (Port n i) q → turn x.net n i ≡ k → HasFateAt p q f) × ((m : ℕ) → m < length x.net.nodes → suc (ports_of x.net n) + m ≡ k → HasFate p m f)

    of_turn : (f : Fate) → Fated f → HasFateOfTurn p k f
    of_turn f r = record {
      port = λ i w q wire at. r.0 i w q (subst (λ z. IsWire z w (Port n i) q) same (subst (λ z. IsWire p.net w (Port z i) q) own wire)) (subst (λ z. turn z n i ≡ k) same (subst (λ z. turn p.net z i ≡ k) own at));
      other = λ m l at. r.1 m (subst (λ z. m < length z.nodes) same l) (subst (λ z. suc (ports_of z n) + m ≡ k) same (subst (λ z. suc (ports_of p.net z) + m ≡ k) own at));
    }

    pub fate_head : (a : ℕ) → MeetsAt x n k (Head a) → HasFateOfTurn p k (Waits (headed x a))
    fate_head a m =
        let l = m.0 in
        let here = met_rest k l less m.1 (link_first (open_graph x.net) After l a m.2) in
        let part = part_is a l here m.2 m.3 in
        let off = undone l m.4 in
        of_turn (Waits (headed x a)) (
          (λ i w q wire at. let r = at_port i w l q wire at m.1 in (l, r.0, r.1, part, to_plan l here, off)),
          λ u small' at.
              let e = at_turn_one x.net net n k l u m.1 (inr at) in
              (subst (λ z. IsComponentOf p z (headed x a)) e part, to_plan u (subst Rest e here), subst (λ z. nodes_in p.done z ≡ false) e off),
        )

    pub fate_again : MeetsAt x n k Again → HasFateOfTurn p k Derived
    fate_again m =
        let l = m.0 in
        let r = m.2 in
        let dec = is_in (left x (suc (turn_of x n))) in
        let last : After l = link_first (open_graph x.net) After l r.1 (link_back x.net After dec r.1 l r.4) in
        let here = met_rest k l less m.1 last in
        let done = met_done l here r in
        of_turn Derived (
          (λ i w q wire at. let y = at_port i w l q wire at m.1 in (l, y.0, y.1, to_plan l here, done)),
          λ u small' at.
              let e = at_turn_one x.net net n k l u m.1 (inr at) in
              (to_plan u (subst Rest e here), subst (λ z. IsIn z (nodes_in p.done)) e done),
        )

    pub fate_gone : MeetsAt x n k Gone → HasFateOfTurn p k Outside
    fate_gone m = of_turn Outside (
      (λ i w q wire at. off i w q wire at),
      λ u small' at. false_from_ne_true (nodes_in p.rest u) (λ g. m u (inr at) (rest_after u (of_plan u g))),
    )
      where
        off : (i w : ℕ) (q : OpenPoint) → IsWire x.net w (Port n i) q → turn x.net n i ≡ k → is_port_in (nodes_in p.rest) q ≡ 0
        off i w (Free e) wire at = refl
        off i w (Port l j) wire at = port_no (nodes_in p.rest) l j (false_from_ne_true (nodes_in p.rest l) (λ g. m l (inl (i, w, j, wire, at)) (rest_after l (of_plan l g))))

  abbrev Off : ℕ → Type 0
  Off k = IsIn k (left x (turn_of x n)) × (k ≢ n)

  -- any part but the whole net is in one piece
  pub touched : turn_of x n ≢ 0 → (m : ℕ) → Rest m → (i : ℕ) × (w : ℕ) × (l : ℕ) × (k : ℕ) × IsWire x.net w (Port n i) (Port l k) × Linked (open_graph x.net) Rest l m
  touched later m here = go (exits x.net (λ k. IsIn k (left x (turn_of x n))) n n m ((part_joined x n m later).0 ((rest_is x n m).0 here).0) (out_of m here))
    where
      later_on : (k : ℕ) → Off k → After k
      later_on k g =
          let r = left_is x (turn_of x n) k g.0 in
          let r1 = r.1 in
          elim (same_nat (turn_of x n) (turn_of x k)) [
            | inl e ↦ absurd (g.1 (sym (same_turn x h n k small r.0 e)))
            | inr d ↦ left_in x (suc (turn_of x n)) k r.0 (omega arith)
          ]

      go : Linked (open_graph x.net) Off n m ⊎ ((i : ℕ) × (w : ℕ) × (l : ℕ) × (j : ℕ) × IsWire x.net w (Port n i) (Port l j) × Linked (open_graph x.net) Off l m) → (i : ℕ) × (w : ℕ) × (l : ℕ) × (k : ℕ) × IsWire x.net w (Port n i) (Port l k) × Linked (open_graph x.net) Rest l m
      go (inl u) = absurd ((link_first (open_graph x.net) Off n m u).1 refl)
      go (inr u) =
          let on = link_map (open_graph x.net) Off After later_on u.2 m u.5 in
          let first = touch_rest x h n u.0 u.1 u.2 u.3 small u.4 (link_first (open_graph x.net) After u.2 m on) in
          (u.0, u.1, u.2, u.3, u.4, joined_rest u.2 m first on)
