-- The net of a node and of the derived nodes grows as a plan goes on.
use Rattle.std.proofs.Math.Bool.{or_comm}
use Rattle.std.proofs.Common.{◌≡◌, ◌≢◌, ◌⊎◌, ◌↔◌, ◌<◌, ◌+◌, ℕ, suc, Bool, false, ◌||◌, nat_eq, List, [], ◌∷◌, ◌++◌, length, slice_get, append_assoc, refl, sym, subst, ap, inl, inr, ◌∙◌, eq-eqb, eqb-true, arith}
use Rattle.in_open_nets.specs.declared.open_nets.OpenPoint.{OpenPoint}
use Rattle.in_open_nets.specs.declared.open_nets.OpenPoint.TheVariants.{Port}
use Rattle.in_simple_deriving.specs.declared.plans.StackStep.{StackStep}
use Rattle.in_simple_deriving.specs.declared.plans.StackStep.TheVariants as joint
use Rattle.in_simple_deriving.specs.TaskStates.{TaskState}
use Rattle.in_simple_deriving.specs.declared.plans.Task.{Task}
use Rattle.in_simple_deriving.specs.declared.plans.Task.TheVariants.{Derive, Make}
use Rattle.in_open_nets.specs.Constructions.{IsIn, AreParts}
use Rattle.in_open_nets.specs.Pieces.{AreJoinedWithin}
use Rattle.in_open_nets.specs.Splitting.{alone, onward, Without}
use Rattle.in_open_nets.specs.OpenNets.{OpenNet, IsAgent, IsClass, IsWire, IsOpenNet, class_in, open_graph}
use Rattle.in_open_nets.specs.Stuck.{IsPart, ports_of, ComesAt}
use Rattle.in_open_nets.specs.Members.{nodes_in}
use Rattle.in_simple_deriving.specs.Turns.{HeadedPart}
use Rattle.in_open_nets.specs.Parts.{IsRest}
use Rattle.in_simple_deriving.specs.Procedure.{IsPlanAtTurn, HasTurn, DerivesNear, with_task}
use Rattle.in_simple_deriving.specs.Stacks.{Shape, shape, no_wires, Fits, RunsTasks, PutsShapes}
use Rattle.in_simple_deriving.specs.Planned.{net_of, PutsNet, with_empty, Skips}
use Rattle.in_open_nets.proofs.Public.{not_both, same_test, port_place, same_nat, link_join, link_first, link_map, in_ports}
use Rattle.in_open_nets.proofs.Public.{turn_one_port_most, without, linked, component, is_component, comes_at, test_yes, class_is_place}
use Rattle.in_open_nets.proofs.Public.{agent_or_class, joined_back}
use Rattle.in_simple_deriving.proofs.Make.{OnlyWire, agents_apart}
use Rattle.in_simple_deriving.proofs.Joining.{shape_same, fits_empty, fits_given, fits_cut, fits_mix}
use Rattle.in_simple_deriving.proofs.Stacking.{none_more, runs_make, runs_derive}
use Rattle.in_simple_deriving.proofs.Planning.{in_net, part_inside, reached_part, node_turn}
use Rattle.std.proofs.lemmas.Bool.{or_cases, or_left, or_right}
use Rattle.in_base.proofs.Each.{at_index}

-- ---- more tasks

module _ (o : OpenNet) where
  pub puts_none : PutsShapes o [] []
  puts_none below = sym (none_more below)

  pub puts_make : (ts : List Task) (j : StackStep) (xs ys : List Shape) (y : Shape) → PutsShapes o ts (xs ++ ys) → Fits o j ys y → PutsShapes o (ts ++ Make j ∷ []) (xs ++ y ∷ [])
  puts_make ts j xs ys y p f below =
      subst (λ z. RunsTasks o (ts ++ Make j ∷ []) below z) (append_assoc below xs (y ∷ []))
      (runs_make o ts j below (below ++ xs) ys y (subst (λ z. RunsTasks o ts below z) (sym (append_assoc below xs ys)) (p below)) f)

  pub puts_derive : (ts : List Task) (c : HeadedPart) (xs : List Shape) → PutsShapes o ts xs → PutsShapes o (ts ++ Derive c ∷ []) (xs ++ shape (nodes_in c.nodes) no_wires ∷ [])
  puts_derive ts c xs p below =
      subst (λ z. RunsTasks o (ts ++ Derive c ∷ []) below z) (append_assoc below xs (shape (nodes_in c.nodes) no_wires ∷ [])) (runs_derive o ts c below (below ++ xs) (p below))

pub skips_none : (p : TaskState) → Skips 0 p p
skips_none p = record { rest = refl; done = refl; puts = λ o net xs f. f }

pub skips_more : (k : ℕ) (p q r : TaskState) → Skips k p q → r ≡ with_task q (Make joint.Empty) → Skips (k + 1) p r
skips_more k p q r s e = record {
  rest = ap (λ z. z.rest) e ∙ s.rest;
  done = ap (λ z. z.done) e ∙ s.done;
  puts = λ o net xs f. more o net xs (s.puts o net xs f);
}
  where
    more : (o : OpenNet) → IsOpenNet o → (xs : List Shape) → PutsShapes o q.tasks (with_empty k xs) → PutsShapes o r.tasks (with_empty (k + 1) xs)
    more o net xs f =
        let d : suc k ≡ k + 1 = omega arith in
        subst (λ z. PutsShapes o r.tasks (with_empty z xs)) d
        (subst (λ z. PutsShapes o z.tasks (with_empty k xs ++ shape (λ n. false) no_wires ∷ [])) (sym e)
        (puts_make o q.tasks joint.Empty (with_empty k xs) [] (shape (λ n. false) no_wires) (subst (λ z. PutsShapes o q.tasks z) (sym (none_more (with_empty k xs))) f) (fits_empty o net)))

module _ (o : OpenNet) (net : IsOpenNet o) (n : ℕ) where
  -- ---- joined in the rest

  pub joined_first : (rest : List Bool) (l m : ℕ) → AreJoinedWithin o rest l m → IsIn l (nodes_in rest)
  joined_first rest = link_first (open_graph o) (λ m. IsIn m (nodes_in rest))

  pub joined_last : (rest : List Bool) (l m : ℕ) → AreJoinedWithin o rest l m → IsIn m (nodes_in rest)
  joined_last rest l m h = joined_first rest m l (joined_back o rest l m h)

  pub joined_near : (rest : List Bool) (w l i m j : ℕ) → IsWire o w (Port l i) (Port m j) → IsIn l (nodes_in rest) → IsIn m (nodes_in rest) → AreJoinedWithin o rest l m
  joined_near rest w l i m j h a b = onward l m m i j a (w, h) (alone m b)

  -- ---- the derived nodes

  module _ (t : ℕ) (p : TaskState) (h : IsPlanAtTurn o n t p) where
    pub not_root : (m : ℕ) → IsIn m (nodes_in p.rest) → m ≢ n
    not_root m a e = not_both (nodes_in p.rest m) a (subst (λ z. nodes_in p.rest z ≡ false) (sym e) h.out)

    pub done_in : (m : ℕ) → IsIn m (nodes_in p.done) → IsIn m (nodes_in p.rest)
    done_in m here = let x = (h.done m).0 here in (part_inside o net n (nodes_in p.rest) (in_net o net n t p h) x.0 x.2 m x.5).0

    pub done_on : (m k : ℕ) → IsIn m (nodes_in p.done) → AreJoinedWithin o p.rest m k → IsIn k (nodes_in p.done)
    done_on m k here link =
        let x = (h.done m).0 here in
        let part = x.2 in
        let on = link_map (open_graph o) (λ m. IsIn m (nodes_in p.rest)) (Without n (nodes_in p.rest)) (λ m a. (a, not_root m a)) m k link in
        (h.done k).1 (x.0, x.1, part, x.3, x.4, (part.2 k).1 (link_join o (Without n (nodes_in p.rest)) (without o net (nodes_in p.rest) (in_net o net n t p h) n) part.0 m k ((part.2 m).0 x.5) on))

    -- the component of a node that isn't derived yet
    module _ (l : ℕ) (q : TaskState) (here : IsIn l (nodes_in p.rest)) (off : nodes_in p.done l ≡ false) (d : DerivesNear o l p q) where
      abbrev before : ℕ → Bool
      before m = nat_eq m n || nodes_in p.done m

      abbrev after : ℕ → Bool
      after m = nat_eq m n || nodes_in q.done m

      pub in_both : (m : ℕ) → IsIn m (nodes_in q.done) ↔ (IsIn m (nodes_in p.done) ⊎ IsIn m (nodes_in d.component.nodes))
      in_both m = (
        (λ a. or_cases (nodes_in p.done m) (nodes_in d.component.nodes m) (or_comm (nodes_in p.done m) (nodes_in d.component.nodes m) ∙ sym (d.both m) ∙ a)),
        λ a. d.both m ∙ or_comm (nodes_in d.component.nodes m) (nodes_in p.done m) ∙ elim a [ inl b ↦ or_left (nodes_in p.done m) (nodes_in d.component.nodes m) b | inr b ↦ or_right (nodes_in p.done m) (nodes_in d.component.nodes m) b ],
      )

      pub component_new : (m : ℕ) → IsIn m (nodes_in d.component.nodes) → IsIn m (nodes_in p.done) → ⊥
      component_new m a b = not_both (nodes_in p.done l) (done_on m l b (joined_back o p.rest l m ((d.reached m).0 a))) off

      component_in : (m : ℕ) → IsIn m (nodes_in d.component.nodes) → IsIn m (nodes_in p.rest)
      component_in m a = joined_last p.rest l m ((d.reached m).0 a)

      parts : AreParts after before (nodes_in d.component.nodes)
      parts m = (
        (
          (λ a. elim (or_cases (nat_eq m n) (nodes_in q.done m) a) [
            | inl b ↦ inl (or_left (nat_eq m n) (nodes_in p.done m) b)
            | inr b ↦ elim ((in_both m).0 b) [ inl e ↦ inl (or_right (nat_eq m n) (nodes_in p.done m) e) | inr e ↦ inr e ]
          ]),
          λ a. elim a [
            | inl b ↦ elim (or_cases (nat_eq m n) (nodes_in p.done m) b) [ inl e ↦ or_left (nat_eq m n) (nodes_in q.done m) e | inr e ↦ or_right (nat_eq m n) (nodes_in q.done m) ((in_both m).1 (inl e)) ]
            | inr b ↦ or_right (nat_eq m n) (nodes_in q.done m) ((in_both m).1 (inr b))
          ],
        ),
        λ a b. elim (or_cases (nat_eq m n) (nodes_in p.done m) a) [
          | inl e ↦ not_root m (component_in m b) (eqb-true m n e)
          | inr e ↦ component_new m b e
        ],
      )

      -- only n itself may lead there
      from_root : (w l' i' m' j' : ℕ) → IsWire o w (Port l' i') (Port m' j') → IsIn l' before → IsIn m' (nodes_in d.component.nodes) → l' ≡ n
      from_root w l' i' m' j' wire a b = elim (or_cases (nat_eq l' n) (nodes_in p.done l') a) [
        | inl e ↦ eqb-true l' n e
        | inr e ↦ absurd (component_new m' b (done_on l' m' e (joined_near p.rest w l' i' m' j' wire (done_in l' e) (component_in m' b))))
      ]

      both_put : PutsNet o n p → PutsShapes o q.tasks (shape before no_wires ∷ shape (nodes_in d.component.nodes) no_wires ∷ [])
      both_put f = subst (λ z. PutsShapes o z (shape before no_wires ∷ shape (nodes_in d.component.nodes) no_wires ∷ [])) (sym d.tasks) (puts_derive o p.tasks d.component (shape before no_wires ∷ []) f)

      pub net_join : (r : TaskState) (i w k : ℕ) → PutsNet o n p → IsWire o w (Port n i) (Port l k) → (IsAgent o n → i ≡ 0) → ((j : ℕ) → class_in o n i ≡ class_in o n j → (v : ℕ) (s : OpenPoint) → IsWire o v (Port n j) s → i ≡ j) → r ≡ with_task q (Make (joint.Cut w)) → PutsNet o n r
      net_join r i w k f wire firm only e =
          subst (PutsNet o n) (sym e)
          (puts_make o q.tasks (joint.Cut w) [] (shape before no_wires ∷ shape (nodes_in d.component.nodes) no_wires ∷ []) (shape after no_wires) (both_put f)
          (fits_cut o net after before (nodes_in d.component.nodes) n i l k w parts wire firm (or_left (nat_eq n n) (nodes_in p.done n) (eq-eqb n n refl)) ((d.reached l).1 (alone l here)) one))
        where
          one : OnlyWire o net before (nodes_in d.component.nodes) n i l k
          one l' i' m' j' v g a b =
              let r = from_root v l' i' m' j' g a b in
              let g' : IsWire o v (Port n i') (Port m' j') = subst (λ z. IsWire o v (Port z i') (Port m' j')) r g in
              let s = only i' ((h.splits i).touched i' w v l m' k j' wire g' ((d.reached m').0 b)) v (Port m' j') g' in
              let g2 : IsWire o v (Port n i) (Port m' j') = subst (λ z. IsWire o v (Port n z) (Port m' j')) (sym s) g' in
              let x = port_place l m' k j' (net.once w v (Port n i) (Port l k) (Port m' j') wire g2).1 in
              ((r, sym s), (sym x.0, sym x.1))

      pub net_beside : (r : TaskState) → PutsNet o n p → ((i w m j : ℕ) → IsWire o w (Port n i) (Port m j) → IsIn m (nodes_in d.component.nodes) → ⊥) → r ≡ with_task q (Make joint.Mix) → PutsNet o n r
      net_beside r f off_n e =
          subst (PutsNet o n) (sym e)
          (puts_make o q.tasks joint.Mix [] (shape before no_wires ∷ shape (nodes_in d.component.nodes) no_wires ∷ []) (shape after no_wires) (both_put f)
          (fits_mix o net after before (nodes_in d.component.nodes) no_wires no_wires parts apart (agents_apart o net after before (nodes_in d.component.nodes) parts apart)))
        where
          apart : (l' i' m' j' w : ℕ) → IsWire o w (Port l' i') (Port m' j') → IsIn l' before → IsIn m' (nodes_in d.component.nodes) → ⊥
          apart l' i' m' j' w g a b =
              let r = from_root w l' i' m' j' g a b in
              off_n i' w m' j' (subst (λ z. IsWire o w (Port z i') (Port m' j')) r g) b

  -- a class node alone
  pub net_given : (p q : TaskState) → IsPlanAtTurn o n 0 p → p.tasks ≡ [] → IsClass o n → q ≡ with_task p (Make (joint.Given n)) → PutsNet o n q
  net_given p q h start c e =
      subst (PutsNet o n) (sym e)
      (puts_make o p.tasks (joint.Given n) [] [] (net_of n p.done) (subst (λ z. PutsShapes o z []) (sym start) (puts_none o))
      (fits_given o net n (λ m. nat_eq m n || nodes_in p.done m) c all self))
    where
      all : (m : ℕ) → IsIn m (λ m. nat_eq m n || nodes_in p.done m) ↔ (m ≡ n)
      all m = (
        (λ a. elim (or_cases (nat_eq m n) (nodes_in p.done m) a) [ inl b ↦ eqb-true m n b | inr b ↦ let l = ((h.done m).0 b).4 in absurd (omega arith) ]),
        λ a. or_left (nat_eq m n) (nodes_in p.done m) (eq-eqb m n a),
      )

      self : (i j w : ℕ) → IsWire o w (Port n i) (Port n j) → ⊥
      self i j w g =
          let f = sym (class_is_place i (slice_get o.nodes n) c) ∙ (h.splits i).own j w g ∙ class_is_place j (slice_get o.nodes n) c in
          net.apart w (Port n i) (Port n j) g (ap (λ z. Port n z) f)

  -- no port of n meets a node with a later turn
  pub untouched : (p : TaskState) (m : ℕ) → HasTurn o n p m (suc (ports_of o n) + m) → (c : ℕ → Bool) → IsPart o n (nodes_in p.rest) c → IsIn m c → (i w l k : ℕ) → IsWire o w (Port n i) (Port l k) → IsIn l c → ⊥
  untouched p m turn c part here i w l k wire inside = go (turn c part here)
    where
      go : ComesAt o n c (suc (ports_of o n) + m) → ⊥
      go (inl x) =
          let b = in_ports o net x.1.0 n x.0 (Port x.1.1 x.1.2) x.1.3 in
          let u = turn_one_port_most o net n x.0 b in
          let v = x.2 in
          omega arith
      go (inr x) = x.0 i (w, l, k, wire, inside)

  -- a node that n doesn't touch, and its component
  pub net_other : (p : TaskState) (m : ℕ) → (h : IsPlanAtTurn o n (suc (ports_of o n) + m) p) → (q r : TaskState) → IsIn m (nodes_in p.rest) → nodes_in p.done m ≡ false → DerivesNear o m p q → PutsNet o n p → r ≡ with_task q (Make joint.Mix) → PutsNet o n r
  net_other p m h q r here off d f e =
      let part = reached_part o net n p.rest d.component.nodes m h.out here d.reached in
      net_beside (suc (ports_of o n) + m) p h m q here off d r f
      (λ i w l k wire inside. untouched p m (node_turn o net n p m h here off) (nodes_in d.component.nodes) part ((d.reached m).1 (alone m here)) i w l k wire inside) e

  -- one port of n leads to a component: of an agent the principal one, and each port of a class node is a class
  pub one_port : (i w : ℕ) (q : OpenPoint) → n < length o.nodes → IsWire o w (Port n i) q → (IsAgent o n → i ≡ 0) → (j : ℕ) → class_in o n i ≡ class_in o n j → (v : ℕ) (r : OpenPoint) → IsWire o v (Port n j) r → i ≡ j
  one_port i w q small wire firm j e v r wire' =
      let x = at_index o.nodes n small in
      elim (agent_or_class (slice_get o.nodes n) x.0 x.1) [
        | inl agent ↦
            let z = firm agent in
            let c = (net.principal n i agent (net.points w (Port n i) q wire)).1 z in
            z ∙ sym ((net.principal n j agent (net.points v (Port n j) r wire')).0 (sym e ∙ c))
        | inr class ↦ sym (class_is_place i (slice_get o.nodes n) class) ∙ e ∙ class_is_place j (slice_get o.nodes n) class
      ]

  -- at the end all of the part is built
  pub net_whole : (part : List Bool) (p : TaskState) → IsPlanAtTurn o n (suc (ports_of o n) + length o.nodes) p → PutsNet o n p → IsRest n part p.rest → IsIn n (nodes_in part) → PutsShapes o p.tasks (shape (nodes_in part) no_wires ∷ [])
  net_whole part p h f r here = subst (λ z. PutsShapes o p.tasks (z ∷ [])) (shape_same (net_of n p.done) (nodes_in part) no_wires same (λ w. refl)) f
    where
      inside : (m : ℕ) → IsIn m (nodes_in p.rest) → m < length o.nodes
      inside m g = in_net o net n (suc (ports_of o n) + length o.nodes) p h m g

      derived : (m : ℕ) → Without n (nodes_in p.rest) m → IsIn m (nodes_in p.done)
      derived m g =
          let c = component o net (nodes_in p.rest) inside n m in
          let is = is_component o net (nodes_in p.rest) inside n m g in
          let mine = test_yes (linked o net (nodes_in p.rest) inside n m m) (alone m g) in
          let t = comes_at o net (nodes_in p.rest) inside n c m mine (inside m g.0) in
          (h.done m).1 (c, t.0, is, t.1, small c t.0 is t.1, mine)
        where
          small : (c : ℕ → Bool) (k : ℕ) → IsPart o n (nodes_in p.rest) c → ComesAt o n c k → k < suc (ports_of o n) + length o.nodes
          small c k is (inl x) =
              let b = in_ports o net x.1.0 n x.0 (Port x.1.1 x.1.2) x.1.3 in
              let u = turn_one_port_most o net n x.0 b in
              let v = x.2 in
              omega arith
          small c k is (inr x) =
              let a = inside x.1.0 (part_inside o net n (nodes_in p.rest) inside c is x.1.0 x.1.1).0 in
              let v = x.1.2 in
              omega arith

      same : (m : ℕ) → (nat_eq m n || nodes_in p.done m) ≡ nodes_in part m
      same m = same_test (nat_eq m n || nodes_in p.done m) (nodes_in part m)
          (λ a. elim (or_cases (nat_eq m n) (nodes_in p.done m) a) [
            | inl e ↦ subst (λ z. IsIn z (nodes_in part)) (sym (eqb-true m n e)) here
            | inr e ↦ ((r m).0 (done_in (suc (ports_of o n) + length o.nodes) p h m e)).0
          ])
          (λ a. elim (same_nat m n) [
            | inl e ↦ or_left (nat_eq m n) (nodes_in p.done m) (eq-eqb m n e)
            | inr d ↦ or_right (nat_eq m n) (nodes_in p.done m) (derived m ((r m).1 (a, d), d))
          ])
