-- The nodes that are taken out of the whole net in turn.
use Rattle.std.proofs.Common.{◌≡◌, ◌↔◌, ◌<◌, ◌≤◌, ◌+◌, ℕ, zero, suc, slice_index_or, inl, inr, Bool, List, [], ◌∷◌, ◌++◌, length, append_assoc, nat_lt, ltb-true, lt-ltb, true, sym, subst, ap, ◌∙◌, arith}
use mathlib.Core.Path.{fun_ext}
use Rattle.std.proofs.lemmas.List.{append-nil}
use Rattle.in_open_nets.proofs.Public.{in_length, same_nat, same_test}
use Rattle.in_simple_deriving.specs.Turns.{NodeOrder, left, node_at, turn_of}
use Rattle.in_simple_deriving.proofs.HeadParts.{left_in, left_is}
use Rattle.in_open_nets.specs.Members.{nodes_in}
use Rattle.in_open_nets.specs.Constructions.{IsIn}
use Rattle.in_open_nets.specs.OpenNets.{OpenNet}
use Rattle.in_open_nets.specs.Stuck.{IsFirstToSplit}
use Rattle.in_node_orders.specs.Orders.{IsLeft, IsNodeOrder, IsOrder, NoNodeSplits, all_nodes, ends, takes}
use Rattle.in_node_orders.specs.Turns.{AreDistinct}

-- an order of what is left goes on with the nodes so far to one of the net
abbrev pub LeadsOn : OpenNet → List ℕ → (ℕ → Bool) → Type 0
LeadsOn o ns s = (ms : List ℕ) (rest : ℕ → Bool) → IsOrder o s ms rest → IsOrder o (all_nodes o) (ns ++ ms) rest

pub leads_more : (o : OpenNet) (ns : List ℕ) (s t : ℕ → Bool) (n : ℕ) → LeadsOn o ns s → IsFirstToSplit o n s → IsLeft n s t → LeadsOn o (ns ++ n ∷ []) t
leads_more o ns s t n on f left ms rest k = subst (λ z. IsOrder o (all_nodes o) z rest) (sym (append_assoc ns (n ∷ []) ms)) (on (n ∷ ms) rest (takes s t rest n ms f left k))

pub leads_start : (o : OpenNet) (bits : List Bool) → length bits ≡ length o.nodes → ((n : ℕ) → n < length o.nodes → nodes_in bits n ≡ true) → LeadsOn o [] (nodes_in bits)
leads_start o bits size all ms rest k = subst (λ z. IsOrder o z ms rest) (fun_ext same) k
  where
    same : (n : ℕ) → nodes_in bits n ≡ all_nodes o n
    same n = same_test (nodes_in bits n) (nat_lt n (length o.nodes))
        (λ h. let l = in_length bits n h in lt-ltb n (length o.nodes) (omega arith))
        (λ h. all n (ltb-true n (length o.nodes) h))

pub leads_end : (o : OpenNet) (ns : List ℕ) (s : ℕ → Bool) → LeadsOn o ns s → NoNodeSplits o s → IsNodeOrder o ns
leads_end o ns s on none = (s, subst (λ z. IsOrder o (all_nodes o) z s) (append-nil ns) (on [] s (ends s none)))

-- each node of an order is in the set, and comes once
record IsOnce (s : ℕ → Bool) (ns : List ℕ) : Type 0 where
  inside : (t : ℕ) → t < length ns → IsIn (slice_index_or ns t 0) s
  once : (a b : ℕ) → a < b → b < length ns → slice_index_or ns a 0 ≡ slice_index_or ns b 0 → ⊥

order_once : (o : OpenNet) (s rest : ℕ → Bool) (ns : List ℕ) → IsOrder o s ns rest → IsOnce s ns
order_once o s _ _ (ends _ h) = record { inside = λ t l. absurd (omega arith); once = λ a b l k. absurd (omega arith) }
order_once o s rest _ (takes _ t _ n ns f left later) =
    let r = order_once o t rest ns later in
    record { inside = inside r; once = once r }
  where
    inside : IsOnce t ns → (i : ℕ) → i < length (n ∷ ns) → IsIn (slice_index_or (n ∷ ns) i 0) s
    inside r zero l = f.here
    inside r (suc i) l = ((left (slice_index_or ns i 0)).0 (r.inside i (omega arith))).0

    once : IsOnce t ns → (a b : ℕ) → a < b → b < length (n ∷ ns) → slice_index_or (n ∷ ns) a 0 ≡ slice_index_or (n ∷ ns) b 0 → ⊥
    once r a zero l k e = omega arith
    once r zero (suc b) l k e = ((left (slice_index_or ns b 0)).0 (r.inside b (omega arith))).1 (sym e)
    once r (suc a) (suc b) l k e = r.once a b (omega arith) (omega arith) e

pub order_distinct : (o : OpenNet) (count : ℕ) (ns : List ℕ) → length o.nodes ≡ count → IsNodeOrder o ns → AreDistinct count ns
order_distinct o count ns e h =
    let r = order_once o (all_nodes o) h.0 ns h.1 in
    record { below = λ t l. let k = ltb-true (slice_index_or ns t 0) (length o.nodes) (r.inside t l) in omega arith; once = r.once }

-- ---- the order by turns

module _ (x : NodeOrder) (nodes : (t : ℕ) → t < length x.nodes → (node_at x t < length x.net.nodes) × (turn_of x (node_at x t) ≡ t)) (turns : (n : ℕ) → n < length x.net.nodes → (turn_of x n < length x.nodes) × (node_at x (turn_of x n) ≡ n)) (most : x.taken ≤ length x.nodes) where
  pub record ByTurns (k : ℕ) : Type 0 where
    pub first : (t : ℕ) → k ≤ t → t < x.taken → IsFirstToSplit x.net (node_at x t) (left x t)
    pub stuck : NoNodeSplits x.net (left x x.taken)

  same_set : (s : ℕ → Bool) (k : ℕ) → ((m : ℕ) → IsIn m s ↔ IsIn m (left x k)) → s ≡ left x k
  same_set s k e = fun_ext (λ m. same_test (s m) (left x k m) (e m).0 (e m).1)

  pub by_turns : (k : ℕ) (s rest : ℕ → Bool) (ms : List ℕ) → IsOrder x.net s ms rest → ((i : ℕ) → i < length ms → node_at x (k + i) ≡ slice_index_or ms i 0) → k + length ms ≡ x.taken → ((m : ℕ) → IsIn m s ↔ IsIn m (left x k)) → ByTurns k
  by_turns k s _ _ (ends _ none) at all e =
      let same : k ≡ x.taken = omega arith in
      record {
        first = λ t l g. absurd (omega arith);
        stuck = subst (λ z. NoNodeSplits x.net (left x z)) same (subst (NoNodeSplits x.net) (same_set s k e) none);
      }
  by_turns k s rest _ (takes _ t _ n ms f gone later) at all e =
      let here : node_at x k ≡ n = subst (λ z. node_at x z ≡ n) zero_more (at 0 (omega arith)) in
      let r = by_turns (k + 1) t rest ms later (λ i l. subst (λ z. node_at x z ≡ slice_index_or ms i 0) (more i) (at (suc i) (omega arith))) (omega arith) (next here) in
      record {
        first = λ u l g. elim (same_nat u k) [
          | inl q ↦ subst (λ z. IsFirstToSplit x.net (node_at x z) (left x z)) (sym q) (subst (λ z. IsFirstToSplit x.net z (left x k)) (sym here) (subst (IsFirstToSplit x.net n) (same_set s k e) f))
          | inr d ↦ r.first u (omega arith) g
        ];
        stuck = r.stuck;
      }
    where
      zero_more : k + 0 ≡ k
      zero_more = omega arith

      more : (i : ℕ) → k + suc i ≡ k + 1 + i
      more i = omega arith

      next : node_at x k ≡ n → (m : ℕ) → IsIn m t ↔ IsIn m (left x (k + 1))
      next here m = (
        (λ g.
            let w = (gone m).0 g in
            let r = left_is x k m ((e m).0 w.0) in
            let r1 = r.1 in
            elim (same_nat (turn_of x m) k) [
              | inl q ↦ absurd (w.1 (sym (turns m r.0).1 ∙ ap (node_at x) q ∙ here))
              | inr d ↦ left_in x (k + 1) m r.0 (omega arith)
            ]),
        λ g.
            let r = left_is x (k + 1) m g in
            let r1 = r.1 in
            (gone m).1 (
              (e m).1 (left_in x k m r.0 (omega arith)),
              λ q.
                  let u : turn_of x m ≡ turn_of x (node_at x k) = ap (turn_of x) (q ∙ sym here) in
                  let v = (nodes k (omega arith)).1 in
                  omega arith,
            ),
      )

  pub all_turns : (ns : List ℕ) → IsNodeOrder x.net ns → length ns ≡ x.taken → ((t : ℕ) → t < x.taken → node_at x t ≡ slice_index_or ns t 0) → ByTurns 0
  all_turns ns h size at = by_turns 0 (all_nodes x.net) h.0 ns h.1
      (λ i l. subst (λ z. node_at x z ≡ slice_index_or ns i 0) (let e : i ≡ 0 + i = omega arith in e) (at i (omega arith)))
      (omega arith)
      (λ m. ((λ g. left_in x 0 m (ltb-true m (length x.net.nodes) g) (omega arith)), λ g. lt-ltb m (length x.net.nodes) (left_is x 0 m g).0))
