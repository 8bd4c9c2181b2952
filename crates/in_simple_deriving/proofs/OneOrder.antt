-- The order of steps determines them.
use Rattle.std.proofs.Common.{◌≡◌, inl, inr, ℕ, suc, ◌+◌, ◌<◌, Bool, true, cond, nat_eq, List, [], ◌∷◌, ◌++◌, length, Option, Some, None, IsSomeAnd, slice_get, refl, sym, ◌∙◌, ap, subst, arith}
use Rattle.in_open_nets.specs.declared.open_nets.Node.{Node}
use Rattle.in_open_nets.specs.declared.open_nets.Node.TheVariants.{AgentNode, ClassNode}
use Rattle.in_open_nets.specs.declared.open_nets.OpenNode.{OpenNode}
use Rattle.in_open_nets.specs.declared.open_nets.OpenPoint.TheVariants.{Port}
use Rattle.in_simple_deriving.specs.declared.plans.StackStep.{StackStep}
use Rattle.in_simple_deriving.specs.declared.plans.StackStep.TheVariants.{Link, Cut}
use Rattle.in_open_nets.specs.Constructions.{IsIn}
use Rattle.in_open_nets.specs.declared.derivations.Step.{Step}
use Rattle.in_open_nets.specs.OpenNets.{OpenNet, IsOpenNet, IsAgentNode, IsWire}
use Rattle.in_simple_deriving.specs.declared.plans.Task.{Task}
use Rattle.in_simple_deriving.specs.declared.plans.Task.TheVariants.{Derive, Make}
use Rattle.std.proofs.Common.{append_assoc}
use Rattle.in_open_nets.specs.Stuck.{ComesAt, IsPart, ports_of}
use Rattle.in_simple_deriving.specs.TakenOrder.{Manner, begins, beside, cut, manner, IsWireAt, JoinsInManner, LeadsAway, LinksAt, Stage, part, turns, at, Comes, taken, start, next, component, link, nothing, AreJointsOf, with_nodes, without, AreTaken, before, links_from, steps_from}
use Rattle.in_simple_deriving.specs.Stacks.{Yields, done, made, derived}
use Rattle.in_simple_deriving.proofs.Planning.{part_inside}
use Rattle.in_node_orders.proofs.Public.{one_left}
use Rattle.in_open_nets.proofs.Public.{one_first, turn_same, turn_one, turn_cases, all_one}

-- the nodes are the open net's
abbrev Inside : OpenNet → Stage → Type 0
Inside o (part s) = (m : ℕ) → IsIn m s → m < length o.nodes
Inside o (turns t n k) = (m : ℕ) → IsIn m t → m < length o.nodes
Inside o (at t n k) = (m : ℕ) → IsIn m t → m < length o.nodes

by_node : (b k : ℕ) (c : Node) (i : ℕ) → k < b → elim c as (λ x. ℕ) [ AgentNode y ↦ cond (nat_eq i 0) b i | ClassNode y d ↦ i ] ≡ k → i ≡ k
by_node b k (AgentNode y) i lt e = elim (turn_cases i b) [ inl h ↦ absurd (let f = h.1 in omega (arith, lt, e, f)) | inr h ↦ sym h.1 ∙ e ]
by_node b k (ClassNode y d) i lt e = e

aux_turn : (x : Option OpenNode) (i k : ℕ) → IsSomeAnd x IsAgentNode → k < elim x [ None ↦ 0 | Some m ↦ length m.class_of ] →
    elim x [ None ↦ i | Some m ↦ elim m.node [ AgentNode y ↦ cond (nat_eq i 0) (length m.class_of) i | ClassNode y c ↦ i ] ] ≡ k → i ≡ k
aux_turn None i k agent lt e = absurd agent
aux_turn (Some m) i k agent lt e = by_node (length m.class_of) k m.node i lt e

module _ (o : OpenNet) (net : IsOpenNet o) where
  one_wire_at : (n k v w : ℕ) → IsWireAt o n k v → IsWireAt o n k w → v ≡ w
  one_wire_at n k v w a b =
      let i = turn_one a.0 b.0 (slice_get o.nodes n) (net.points v (Port n a.0) a.1 a.2) (net.points w (Port n b.0) b.1 b.2) (a.3 ∙ sym b.3) in
      (net.once v w (Port n a.0) a.1 b.1 a.2 (subst (λ z. IsWire o w (Port n z) b.1) (sym i) b.2)).0

  one_joined : (n k : ℕ) (m : Manner) (js is : List StackStep) → JoinsInManner o n k m js → JoinsInManner o n k m is → js ≡ is
  one_joined n k begins js is h g = h ∙ sym g
  one_joined n k beside js is h g = h ∙ sym g
  one_joined n k cut js is h g = h.2 ∙ ap (λ w. Cut w ∷ []) (one_wire_at n k h.0 g.0 h.1 g.1) ∙ sym g.2

  one_link : (s : ℕ → Bool) (n k v w : ℕ) → LinksAt o s n k v → LinksAt o s n k w → v ≡ w
  one_link s n k v w h g = (net.once v w (Port n k) h.point g.point h.wire g.wire).0

  not_both : (s : ℕ → Bool) (n k : ℕ) → Inside o (at s n k) → (c : ℕ → Bool) (w : ℕ) → IsPart o n s c → ComesAt o n c k → LinksAt o s n k w → ⊥
  not_both s n k inside c w p (inl t) l =
      let i : t.0 ≡ k = aux_turn (slice_get o.nodes n) t.0 k l.agent l.port t.2 in
      let wire : IsWire o t.1.0 (Port n k) (Port t.1.1 t.1.2) = subst (λ z. IsWire o t.1.0 (Port n z) (Port t.1.1 t.1.2)) i t.1.3 in
      let same : l.point ≡ Port t.1.1 t.1.2 = (net.once w t.1.0 (Port n k) l.point (Port t.1.1 t.1.2) l.wire wire).1 in
      (subst (LeadsAway s n k) same l.away).0 (part_inside o net n s inside c p t.1.1 t.1.4).0
  not_both s n k inside c w p (inr t) l = let a = t.1.2 in let b = l.port in omega (arith, a, b)

  one : (g : Stage) (js is : List StackStep) → Inside o g → Comes o g js → Comes o g is → js ≡ is
  one _ _ _ inside (taken s t n js f left h) (taken _ u m is f1 left1 k) =
      let e = one_first o net s n m f f1 in
      let same : t ≡ u = one_left n m s t u e left left1 in
      one (turns t n (suc (ports_of o n) + length o.nodes)) js is (λ m g. inside m ((left m).0 g).0) h
      (subst (λ z. Comes o (turns z n (suc (ports_of o n) + length o.nodes)) is) (sym same) (subst (λ z. Comes o (turns u z (suc (ports_of o z) + length o.nodes)) is) (sym e) k))
  one _ _ _ inside (start s n) (start _ _) = refl
  one _ _ _ inside (next s n k js is h g) (next _ _ _ js1 is1 h1 g1) =
      ap (λ z. z ++ (before o n k ++ is)) (one (turns s n k) js js1 inside h h1) ∙ ap (λ z. js1 ++ (before o n k ++ z)) (one (at s n k) is is1 inside g g1)
  one _ _ _ inside (component s n k c js is p t h j) (component _ _ _ d js1 is1 p1 t1 h1 j1) =
      let e = turn_same o net s inside n c d p p1 k t t1 in
      ap (λ z. z ++ is) (one (part c) js js1 (λ m z. inside m (part_inside o net n s inside c p m z).0) h (subst (λ z. Comes o (part z) js1) (sym e) h1))
      ∙ ap (λ z. js1 ++ z) (one_joined n k (manner o n k) is is1 j j1)
  one _ _ _ inside (component s n k c js is p t h j) (link _ _ _ w is1 l j1) = absurd (not_both s n k inside c w p t l)
  one _ _ _ inside (component s n k c js is p t h j) (nothing _ _ _ none) = absurd (none.0 c p t)
  one _ _ _ inside (link s n k w is l j) (component _ _ _ d js1 is1 p1 t1 h1 j1) = absurd (not_both s n k inside d w p1 t1 l)
  one _ _ _ inside (link s n k w is l j) (link _ _ _ v is1 l1 j1) = ap (λ z. Link z ∷ is) (one_link s n k w v l l1) ∙ ap (λ z. Link v ∷ z) (one_joined n k (manner o n k) is is1 j j1)
  one _ _ _ inside (link s n k w is l j) (nothing _ _ _ none) = absurd (none.1 w l)
  one _ _ _ inside (nothing s n k none) (component _ _ _ d js1 is1 p1 t1 h1 j1) = absurd (none.0 d p1 t1)
  one _ _ _ inside (nothing s n k none) (link _ _ _ v is1 l1 j1) = absurd (none.1 v l1)
  one _ _ _ inside (nothing s n k none) (nothing _ _ _ none1) = refl

  one_joints : (js is : List StackStep) → AreJointsOf o js → AreJointsOf o is → js ≡ is
  one_joints _ _ (with_nodes s js some all h) (with_nodes t is some1 all1 k) =
      ap (λ z. z ++ links_from o true 0 (length o.wires)) (one (part s) js is (λ m z. (all m).0 z) h (subst (λ z. Comes o (part z) is) (sym (all_one o net s t all all1)) k))
  one_joints _ _ (with_nodes s js some all h) (without none) = absurd (omega (arith, some, none))
  one_joints _ _ (without none) (with_nodes t is some1 all1 k) = absurd (omega (arith, some1, none))
  one_joints _ _ (without none) (without none1) = refl

  pub one_list : (a b : List Step) → AreTaken o a → AreTaken o b → a ≡ b
  one_list a b h k = h.2 ∙ ap (λ js. steps_from js [] []) (one_joints h.0 k.0 h.1 k.1) ∙ sym k.2

-- ---- tasks

pub record IsSplit (o : OpenNet) (xs ys : List Task) (js : List StackStep) : Type 0 where
  pub one : List StackStep
  pub other : List StackStep
  pub first : Yields o xs one
  pub second : Yields o ys other
  pub whole : one ++ other ≡ js

pub split : (o : OpenNet) (xs ys : List Task) (js : List StackStep) → Yields o (xs ++ ys) js → IsSplit o xs ys js
split o [] ys js h = record { one = []; other = js; first = done; second = h; whole = refl }
split o (Make j ∷ xs) ys _ (made _ _ js h) =
    let r = split o xs ys js h in record { one = j ∷ r.one; other = r.other; first = made j xs r.one r.first; second = r.second; whole = ap (λ z. j ∷ z) r.whole }
split o (Derive c ∷ xs) ys _ (derived _ _ is js k h) =
    let r = split o xs ys js h in
    record { one = is ++ r.one; other = r.other; first = derived c xs is r.one k r.first; second = r.second; whole = append_assoc is r.one r.other ∙ ap (λ z. is ++ z) r.whole }
