-- The nodes of a stuck sub-net are nodes of its open net, and the first one that is listed is the least.
use Rattle.std.proofs.Common.{◌≡◌, inl, inr, List, [], ◌∷◌, length, ℕ, suc, ◌<◌, ◌≤◌, Some, slice_get, get_or, option_map, sym, subst, ap, ◌∙◌, arith}
use Rattle.std.proofs.lemmas.Option.{slice_get-get_or, same_Some}
use Rattle.in_syntax.specs.declared.places.Place.{Place}
use Rattle.in_open_nets.specs.declared.derivations.Stuck.{Stuck as StuckNet}
use Rattle.in_open_nets.specs.declared.open_nets.OpenNode.{OpenNode}
use Rattle.in_open_nets.specs.Constructions.{IsIn}
use Rattle.in_open_nets.specs.OpenNets.{OpenNet, IsOpenNet, node_place_in}
use Rattle.in_open_nets.specs.Stuck.{Among, IsListed, IsStuckAt, IsStuckNet, RisesThrough}
use Rattle.in_open_nets.proofs.Built.Both.{stuck_nodes}

least_of : (low : ℕ) (ns : List ℕ) → RisesThrough low ns → (m : ℕ) → Among m ns → low ≤ m
least_of low [] h m a = absurd a
least_of low (n ∷ ns) h m (inl e) = let l = h.0 in omega (arith, l, e)
least_of low (n ∷ ns) h m (inr a) = let r = least_of (suc n) ns h.1 m a in let l = h.0 in omega (arith, r, l)

first_least : (low : ℕ) (n : ℕ) (ns : List ℕ) → RisesThrough low (n ∷ ns) → (m : ℕ) → Among m (n ∷ ns) → n ≤ m
first_least low n ns h m (inl e) = omega (arith, e)
first_least low n ns h m (inr a) = let r = least_of (suc n) ns h.1 m a in omega (arith, r)

module _ (o : OpenNet) (net : IsOpenNet o) (s : StuckNet) (h : IsStuckNet o s) where
  pub some_stuck : 0 < length s.nodes
  some_stuck = let e = stuck_nodes o net h.1.0 h.1.1 in among e.0.0 s.nodes ((h.1.2.all e.0.0).0 e.0.1)
    where
      among : (n : ℕ) (ns : List ℕ) → Among n ns → 0 < length ns
      among n [] a = absurd a
      among n (m ∷ ns) a = omega arith

  first_listed : (n : ℕ) (ns : List ℕ) → IsListed h.1.0 ns → slice_get ns 0 ≡ Some n → IsIn n h.1.0 × ((m : ℕ) → IsIn m h.1.0 → n ≤ m)
  first_listed n [] l e = cc
  first_listed n (k ∷ ks) l e =
      let same = same_Some k n e in
      ((l.all n).1 (inl (sym same)), λ m i. subst (λ z. z ≤ m) same (first_least 0 k ks l.rises m ((l.all m).0 i)))

  pub stuck_node : (n : ℕ) → slice_get s.nodes 0 ≡ Some n → n < length o.nodes
  stuck_node n e = (stuck_nodes o net h.1.0 h.1.1).1 n (first_listed n s.nodes h.1.2 e).0

  pub stuck_at : (n : ℕ) (p : Place) → slice_get s.nodes 0 ≡ Some n → node_place_in o n ≡ Some p → IsStuckAt o p
  stuck_at n p e f = let l = first_listed n s.nodes h.1.2 e in record { stuck = h.1.0; is_first = h.1.1; node = n; here = l.0; least = l.1; place = f }

  -- the node is read at the number that is listed first
  pub first_number : (items : List ℕ) → items ≡ s.nodes → slice_get s.nodes 0 ≡ Some (get_or items 0 0)
  first_number items e = subst (λ z. slice_get z 0 ≡ Some (get_or items 0 0)) e (slice_get-get_or items 0 0 (subst (λ (z : List ℕ). 0 < length z) (sym e) some_stuck))

  pub stuck_below : (nodes : List OpenNode) (items : List ℕ) → nodes ≡ o.nodes → items ≡ s.nodes → get_or items 0 0 < length nodes
  stuck_below nodes items e f = subst (λ (z : List OpenNode). get_or items 0 0 < length z) (sym e) (stuck_node (get_or items 0 0) (first_number items f))

  pub stuck_read : (nodes : List OpenNode) (items : List ℕ) (m : OpenNode) → nodes ≡ o.nodes → items ≡ s.nodes → m ≡ get_or nodes (get_or items 0 0) m → IsStuckAt o m.place
  stuck_read nodes items m e f is =
      let n = get_or items 0 0 in
      let at : slice_get o.nodes n ≡ Some m = subst (λ (z : List OpenNode). slice_get z n ≡ Some m) e (slice_get-get_or nodes n m (stuck_below nodes items e f) ∙ ap Some (sym is)) in
      stuck_at n m.place (first_number items f) (ap (option_map (λ (m : OpenNode). m.place)) at)
