-- The nets of an agent's classes grow port by port, until the agent is grafted on them.
use Rattle.std.proofs.Common.{◌≡◌, ◌≢◌, ◌⊎◌, ◌↔◌, ◌<◌, ◌≤◌, ◌+◌, ℕ, zero, suc, Bool, true, false, cond, ◌&&◌, ◌||◌, nat_eq, Some, List, [], ◌∷◌, ◌++◌, length, slice_get, append_assoc, refl, sym, subst, ap, inl, inr, ◌∙◌, eq-eqb, eqb-true, arith}
use Rattle.in_open_nets.specs.declared.open_nets.OpenPoint.{OpenPoint}
use Rattle.in_open_nets.specs.declared.open_nets.OpenPoint.TheVariants.{Port}
use Rattle.in_simple_deriving.specs.declared.plans.StackStep.TheVariants as joint
use Rattle.in_simple_deriving.specs.TaskStates.{TaskState}
use Rattle.in_simple_deriving.specs.declared.plans.Task.{Task}
use Rattle.in_simple_deriving.specs.declared.plans.Task.TheVariants.{Make}
use Rattle.in_open_nets.specs.Constructions.{IsIn, AreParts, IsGraft}
use Rattle.in_open_nets.specs.Pieces.{AreJoinedWithin}
use Rattle.in_open_nets.specs.Splitting.{alone}
use Rattle.in_open_nets.specs.OpenNets.{OpenNet, IsAgent, IsOpenPoint, IsWire, IsOpenNet, class_in, classes_of, open_graph}
use Rattle.in_open_nets.specs.declared.derivations.Step.TheVariants.{Graft}
use Rattle.in_open_nets.specs.Derivations.{Part, is_port_in}
use Rattle.in_open_nets.specs.Stuck.{ports_of}
use Rattle.in_open_nets.specs.Members.{nodes_in}
use Rattle.in_simple_deriving.specs.Procedure.{IsPlanAtTurn, DerivesNear, with_task}
use Rattle.in_simple_deriving.specs.Stacks.{Shape, shape, no_wires, HasShape, HaveShapes, IsLinkOf, Fits, PutsShapes}
use Rattle.in_simple_deriving.specs.Planned.{net_of, Meets, LeadsOff, IsBelow, IsClassShape, AreClassShapes, PutsClasses, HasClasses, IsBegunClass, AddsPort, AddsNothing, WhatPort, with_empty, Skips}
use Rattle.in_base.proofs.Places.{some_same, unsnoc}
use Rattle.in_open_nets.proofs.Public.{not_both, same_test, port_yes, port_own, both_right, wire_within, wire_turn, wire_points, port_place}
use Rattle.in_open_nets.proofs.Public.{same_nat, at_most, at_ports, in_ports, length_app, joined_back, joined_on}
use Rattle.in_simple_deriving.proofs.Make.{port_most, hanging, hanging_is, hanging_yes, fit_graft}
use Rattle.in_simple_deriving.proofs.Joining.{shape_same, built_over, fits_link, fits_mix}
use Rattle.in_simple_deriving.proofs.Stacking.{none_more}
use Rattle.in_simple_deriving.proofs.Nets.{joined_first, joined_last, joined_near, not_root, done_on, in_both, component_new, puts_none, puts_make, puts_derive}
use Rattle.std.proofs.lemmas.Bool.{and_from, or_cases, or_left, or_right}

module _ (o : OpenNet) (net : IsOpenNet o) (n : ℕ) where
  -- ---- the shape that a port adds

  -- the port's wire leads to one point
  at_port : (i w v : ℕ) (p q : OpenPoint) → IsWire o w (Port n i) p → IsWire o v (Port n i) q → (w ≡ v) × (p ≡ q)
  at_port i w v p q h g = net.once w v (Port n i) p q h g

  met_at : (rest : List Bool) (i w l k m : ℕ) → IsWire o w (Port n i) (Port l k) → Meets o rest n i m → AreJoinedWithin o rest l m
  met_at rest i w l k m wire x = subst (λ z. AreJoinedWithin o rest z m) (sym (port_place l x.1 k x.2 (at_port i w x.0 (Port l k) (Port x.1 x.2) wire x.3).1).0) x.4

  no_lead : (rest : List Bool) (i w l k v : ℕ) → IsWire o w (Port n i) (Port l k) → IsIn l (nodes_in rest) → LeadsOff o rest n i v → ⊥
  no_lead rest i w l k v wire here x =
      let e = (at_port i w v (Port l k) x.0 wire x.1).1 in
      let one : is_port_in (nodes_in rest) x.0 ≡ 1 = subst (λ z. is_port_in (nodes_in rest) z ≡ 1) e (port_yes (nodes_in rest) l k here) in
      let zero = x.2 in
      omega arith

  module _ (t : ℕ) (p : TaskState) (h : IsPlanAtTurn o n t p) (i : ℕ) where
    pub nothing_done : (w l k : ℕ) → IsWire o w (Port n i) (Port l k) → IsIn l (nodes_in p.rest) → IsIn l (nodes_in p.done) → AddsNothing o n i p p
    nothing_done w l k wire here done = record {
      same = refl;
      met = λ m x. done_on o net n t p h l m done (met_at p.rest i w l k m wire x);
      past = λ v x. absurd (no_lead p.rest i w l k v wire here x);
    }

    pub nothing_own : (w l k : ℕ) → IsWire o w (Port n i) (Port l k) → nodes_in p.rest l ≡ false → l ≡ n → k ≤ i → AddsNothing o n i p p
    nothing_own w l k wire out e le = record {
      same = refl;
      met = λ m x. absurd (not_both (nodes_in p.rest l) (joined_first o net n p.rest l m (met_at p.rest i w l k m wire x)) out);
      past = λ v x.
          let f = at_port i w v (Port l k) x.0 wire x.1 in
          let d : k ≢ i = λ g. net.apart w (Port n i) (Port l k) wire (ap (λ z. Port z i) (sym e) ∙ ap (λ z. Port l z) (sym g)) in
          (k, omega arith, subst (λ z. IsWire o v (Port n i) (Port z k)) e (subst (λ z. IsWire o v (Port n i) z) (sym f.1) x.1));
    }

    pub adds_component : (w l k : ℕ) (q : TaskState) → IsWire o w (Port n i) (Port l k) → IsIn l (nodes_in p.rest) → nodes_in p.done l ≡ false → (d : DerivesNear o l p q) → AddsPort o n i p q (shape (nodes_in d.component.nodes) no_wires)
    adds_component w l k q wire here off d = record {
      puts = λ xs f. subst (λ z. PutsShapes o z (xs ++ shape (nodes_in d.component.nodes) no_wires ∷ [])) (sym d.tasks) (puts_derive o p.tasks d.component xs f);
      nodes = λ m. ((λ a. (w, l, k, wire, (d.reached m).0 a)), λ x. (d.reached m).1 (met_at p.rest i w l k m wire x));
      links = λ v. ((λ a. absurd (not_both false a refl)), λ x. absurd (no_lead p.rest i w l k v wire here x));
      fresh = λ m a b. component_new o net n t p h l q here off d m a b;
      first = λ v j a g. absurd (not_both false a refl);
      done = λ m. in_both o net n t p h l q here off d m;
    }

    pub adds_link : (w : ℕ) (q : OpenPoint) (r : TaskState) → IsWire o w (Port n i) q → is_port_in (nodes_in p.rest) q ≡ 0 → ((j : ℕ) → q ≡ Port n j → i < j) → r ≡ with_task p (Make (joint.Link w)) → AddsPort o n i p r (shape (λ m. false) (λ v. nat_eq v w))
    adds_link w q r wire off later e = record {
      puts = λ xs f. subst (λ z. PutsShapes o z.tasks (xs ++ shape (λ m. false) (λ v. nat_eq v w) ∷ [])) (sym e) (puts_make o p.tasks (joint.Link w) xs [] (shape (λ m. false) (λ v. nat_eq v w)) (subst (λ z. PutsShapes o p.tasks z) (sym (none_more xs)) f) (fits_link o net w (Port n i) q wire));
      nodes = λ m. (
        (λ a. absurd (not_both false a refl)),
        λ x.
            let f = (at_port i w x.0 q (Port x.1 x.2) wire x.3).1 in
            let one : is_port_in (nodes_in p.rest) q ≡ 1 = subst (λ z. is_port_in (nodes_in p.rest) z ≡ 1) (sym f) (port_yes (nodes_in p.rest) x.1 x.2 (joined_first o net n p.rest x.1 m x.4)) in
            absurd (omega arith),
      );
      links = λ v. (
        (λ a. (q, subst (λ z. IsWire o z (Port n i) q) (sym (eqb-true v w a)) wire, off)),
        λ x. eq-eqb v w (sym (at_port i w v q x.0 wire x.1).0),
      );
      fresh = λ m a b. not_both false a refl;
      first = λ v j a g. later j (at_port i w v q (Port n j) wire g).1;
      done = λ m. (
        (λ a. inl (subst (λ z. IsIn m (nodes_in z.done)) e a)),
        λ a. elim a [ inl b ↦ subst (λ z. IsIn m (nodes_in z.done)) (sym e) b | inr b ↦ absurd (not_both false b refl) ],
      );
    }

  -- ---- lists of classes

  below_next : (b i : ℕ) → IsBelow b i → IsBelow (suc b) i
  below_next b i h = let l = h.1 in (h.0, omega arith)

  below_cases : (b i : ℕ) → IsBelow (suc b) i → (i ≡ b) ⊎ IsBelow b i
  below_cases b i h = elim (same_nat i b) [ inl e ↦ inl e | inr d ↦ let l = h.1 in inr (h.0, omega arith) ]

  class_next : (rest : List Bool) (b c : ℕ) (x : Shape) → (class_in o n b ≡ c → ⊥) → IsClassShape o rest n b c x → IsClassShape o rest n (suc b) c x
  class_next rest b c x d h = record {
    nodes = λ m. (
      (λ a. let y = (h.nodes m).0 a in (y.0, below_next b y.0 y.1, y.2, y.3)),
      λ y. elim (below_cases b y.0 y.1) [ inl e ↦ absurd (d (ap (class_in o n) (sym e) ∙ y.2)) | inr l ↦ (h.nodes m).1 (y.0, l, y.2, y.3) ],
    );
    links = λ w. (
      (λ a. let y = (h.links w).0 a in (y.0, below_next b y.0 y.1, y.2, y.3)),
      λ y. elim (below_cases b y.0 y.1) [ inl e ↦ absurd (d (ap (class_in o n) (sym e) ∙ y.2)) | inr l ↦ (h.links w).1 (y.0, l, y.2, y.3) ],
    );
  }

  classes_next : (rest : List Bool) (b c : ℕ) (xs : List Shape) → c + length xs ≤ class_in o n b → AreClassShapes o rest n b c xs → AreClassShapes o rest n (suc b) c xs
  classes_next rest b c [] l h = tt
  classes_next rest b c (x ∷ xs) l h = (class_next rest b c x (λ e. omega arith) h.0, classes_next rest b (suc c) xs (omega arith) h.1)

  classes_snoc : (rest : List Bool) (b c : ℕ) (xs : List Shape) (x : Shape) → AreClassShapes o rest n b c xs → IsClassShape o rest n b (c + length xs) x → AreClassShapes o rest n b c (xs ++ x ∷ [])
  classes_snoc rest b c [] x h k = let e : c + 0 ≡ c = omega arith in (subst (λ z. IsClassShape o rest n b z x) e k, tt)
  classes_snoc rest b c (y ∷ ys) x h k = let e : c + suc (length ys) ≡ suc c + length ys = omega arith in (h.0, classes_snoc rest b (suc c) ys x h.1 (subst (λ z. IsClassShape o rest n b z x) e k))

  classes_unsnoc : (rest : List Bool) (b c : ℕ) (xs : List Shape) (x : Shape) → AreClassShapes o rest n b c (xs ++ x ∷ []) → AreClassShapes o rest n b c xs × IsClassShape o rest n b (c + length xs) x
  classes_unsnoc rest b c [] x h = let e : c ≡ c + 0 = omega arith in (tt, subst (λ z. IsClassShape o rest n b z x) e h.0)
  classes_unsnoc rest b c (y ∷ ys) x h =
      let r = classes_unsnoc rest b (suc c) ys x h.1 in
      let e : suc c + length ys ≡ c + suc (length ys) = omega arith in
      ((h.0, r.0), subst (λ z. IsClassShape o rest n b z x) e r.1)

  many_empty : (k : ℕ) (xs : List Shape) → length (with_empty k xs) ≡ length xs + k
  many_empty zero xs = omega arith
  many_empty (suc k) xs = let r = many_empty k xs in let l = length_app (with_empty k xs) (shape (λ n. false) no_wires ∷ []) in omega arith

  -- a class of which no port came yet
  class_none : (rest : List Bool) (b c : ℕ) → ((i : ℕ) → IsBelow b i → i < ports_of o n → class_in o n i ≡ c → ⊥) → IsClassShape o rest n b c (shape (λ n. false) no_wires)
  class_none rest b c off = record {
    nodes = λ m. ((λ a. absurd (not_both false a refl)), λ y. absurd (let x = y.3 in off y.0 y.1 (in_ports o net x.0 n y.0 (Port x.1 x.2) x.3) y.2));
    links = λ w. ((λ a. absurd (not_both false a refl)), λ y. absurd (let x = y.3 in off y.0 y.1 (in_ports o net w n y.0 x.0 x.1) y.2));
  }

  classes_empty : (rest : List Bool) (b c : ℕ) (xs : List Shape) → ((i : ℕ) → IsBelow b i → i < ports_of o n → class_in o n i < c + length xs) → AreClassShapes o rest n b c xs → (k : ℕ) → AreClassShapes o rest n b c (with_empty k xs)
  classes_empty rest b c xs f h zero = h
  classes_empty rest b c xs f h (suc k) =
      let l = many_empty k xs in
      classes_snoc rest b c (with_empty k xs) (shape (λ n. false) no_wires) (classes_empty rest b c xs f h k)
      (class_none rest b (c + length (with_empty k xs)) (λ i bl pl e. let s = f i bl pl in omega arith))

  pub skip_classes : (rest : List Bool) (b begun k : ℕ) (ts us : List Task) (done : List Bool) (f : PutsClasses o rest n b begun ts done) → ((xs : List Shape) → PutsShapes o ts xs → PutsShapes o us (with_empty k xs)) → PutsClasses o rest n b (begun + k) us done
  skip_classes rest b begun k ts us done f more = record {
    shapes = with_empty k f.shapes;
    puts = more f.shapes f.puts;
    many = many_empty k f.shapes ∙ ap (λ z. z + k) f.many;
    each = classes_empty rest b 1 f.shapes (λ i bl pl. let s = f.most i bl pl in let l = f.many in omega arith) f.each k;
    most = λ i bl pl. let s = f.most i bl pl in omega arith;
    done_is = f.done_is;
  }

  -- ---- the nodes that a port meets

  meets_class : (t : ℕ) (p : TaskState) → IsPlanAtTurn o n t p → (i j m : ℕ) → Meets o p.rest n i m → Meets o p.rest n j m → class_in o n i ≡ class_in o n j
  meets_class t p h i j m x y = (h.splits i).touched j x.0 y.0 x.1 y.1 x.2 y.2 x.3 y.3 (joined_on o p.rest x.1 m y.1 x.4 (joined_back o p.rest y.1 m y.4))

  meets_in : (rest : List Bool) (i m : ℕ) → Meets o rest n i m → IsIn m (nodes_in rest)
  meets_in rest i m x = joined_last o net n rest x.1 m x.4

  -- ---- one port more

  module _ (agent : IsAgent o n) (t : ℕ) (p : TaskState) (h : IsPlanAtTurn o n t p) (b : ℕ) (aux : 0 < b) where
    meets_on : (i l m : ℕ) → Meets o p.rest n i l → AreJoinedWithin o p.rest l m → Meets o p.rest n i m
    meets_on i l m x k = (x.0, x.1, x.2, x.3, joined_on o p.rest x.1 l m x.4 k)

    -- an own wire to an earlier port comes from a port of the same class, which is no principal one
    past_class : (w j : ℕ) → 0 < class_in o n b → j < b → IsWire o w (Port n b) (Port n j) → IsBelow b j × (class_in o n j ≡ class_in o n b)
    past_class w j l k wire =
        let e = (h.splits b).own j w wire in
        let z : j ≢ 0 = λ f.
        let g = (net.principal n j agent (net.points w (Port n j) (Port n b) (wire_turn o w (Port n b) (Port n j) wire))).1 f in
        omega arith in
        ((omega arith, k), sym e)

    module _ (begun : ℕ) (ts : List Task) (f : PutsClasses o p.rest n b begun ts p.done) where
      done_adds : (q : TaskState) (x : Shape) → AddsPort o n b p q x → (m : ℕ) → IsIn m (nodes_in q.done) ↔ ((i : ℕ) × IsBelow (suc b) i × Meets o p.rest n i m)
      done_adds q x a m = (
        (λ g. elim ((a.done m).0 g) [ inl u ↦ let y = (f.done_is m).0 u in (y.0, below_next b y.0 y.1, y.2) | inr u ↦ (b, (aux, omega arith), (a.nodes m).0 u) ]),
        λ y. (a.done m).1 (elim (below_cases b y.0 y.1) [ inl e ↦ inr ((a.nodes m).1 (subst (λ z. Meets o p.rest n z m) e y.2)) | inr l ↦ inl ((f.done_is m).1 (y.0, l, y.2)) ]),
      )

      done_same : (q : TaskState) → AddsNothing o n b p q → (m : ℕ) → IsIn m (nodes_in p.done) ↔ ((i : ℕ) × IsBelow (suc b) i × Meets o p.rest n i m)
      done_same q a m = (
        (λ g. let y = (f.done_is m).0 g in (y.0, below_next b y.0 y.1, y.2)),
        λ y. elim (below_cases b y.0 y.1) [ inl e ↦ a.met m (subst (λ z. Meets o p.rest n z m) e y.2) | inr l ↦ (f.done_is m).1 (y.0, l, y.2) ],
      )

      most_next : (c : ℕ) → begun ≤ c → class_in o n b ≤ c → (i : ℕ) → IsBelow (suc b) i → i < ports_of o n → class_in o n i ≤ c
      most_next c l k i bl pl = elim (below_cases b i bl) [ inl e ↦ let g = ap (class_in o n) e in omega arith | inr d ↦ let g = f.most i d pl in omega arith ]

      -- the first port of a class
      module _ (next : class_in o n b ≡ suc begun) where
        pub first_adds : (q : TaskState) (us : List Task) (x : Shape) → ((xs : List Shape) → PutsShapes o ts xs → PutsShapes o us (xs ++ x ∷ [])) → AddsPort o n b p q x → PutsClasses o p.rest n (suc b) (class_in o n b) us q.done
        first_adds q us x more a = record {
          shapes = f.shapes ++ x ∷ [];
          puts = more f.shapes f.puts;
          many = let l = length_app f.shapes (x ∷ []) in let k = f.many in omega arith;
          each = let k = f.many in classes_snoc p.rest (suc b) 1 f.shapes x (classes_next p.rest b 1 f.shapes (omega arith) f.each) (let e : class_in o n b ≡ 1 + length f.shapes = omega arith in subst (λ z. IsClassShape o p.rest n (suc b) z x) e new);
          most = most_next (class_in o n b) (omega arith) (omega arith);
          done_is = done_adds q x a;
        }
          where
            new : IsClassShape o p.rest n (suc b) (class_in o n b) x
            new = record {
              nodes = λ m. (
                (λ g. (b, (aux, omega arith), refl, (a.nodes m).0 g)),
                λ y. elim (below_cases b y.0 y.1) [
                  | inl e ↦ (a.nodes m).1 (subst (λ z. Meets o p.rest n z m) e y.3)
                  | inr l ↦ let v = y.3 in let s = f.most y.0 l (in_ports o net v.0 n y.0 (Port v.1 v.2) v.3) in let u = y.2 in absurd (omega arith)
                ],
              );
              links = λ w. (
                (λ g. (b, (aux, omega arith), refl, (a.links w).0 g)),
                λ y. elim (below_cases b y.0 y.1) [
                  | inl e ↦ (a.links w).1 (subst (λ z. LeadsOff o p.rest n z w) e y.3)
                  | inr l ↦ let v = y.3 in let s = f.most y.0 l (in_ports o net w n y.0 v.0 v.1) in let u = y.2 in absurd (omega arith)
                ],
              );
            }

      -- a further port of a class
      module _ (same : class_in o n b ≡ begun) (some : 0 < begun) where
        record Topmost : Type 0 where
          front : List Shape
          top : Shape
          shapes_are : f.shapes ≡ front ++ top ∷ []
          size : suc (length front) ≡ begun
          lower : AreClassShapes o p.rest n b 1 front
          class : IsClassShape o p.rest n b (class_in o n b) top

        topmost : Topmost
        topmost =
            let k = f.many in
            let r = unsnoc f.shapes (omega arith) in
            let l = ap length r.2 ∙ length_app r.0 (r.1 ∷ []) in
            let u = classes_unsnoc p.rest b 1 r.0 r.1 (subst (λ z. AreClassShapes o p.rest n b 1 z) r.2 f.each) in
            let e : 1 + length r.0 ≡ class_in o n b = omega arith in
            record { front = r.0; top = r.1; shapes_are = r.2; size = omega arith; lower = u.0; class = subst (λ z. IsClassShape o p.rest n b z r.1) e u.1 }

        grown : (g : Topmost) (us : List Task) (done : List Bool) (x : Shape) → PutsShapes o us (g.front ++ x ∷ []) → IsClassShape o p.rest n (suc b) (class_in o n b) x → ((m : ℕ) → IsIn m (nodes_in done) ↔ ((i : ℕ) × IsBelow (suc b) i × Meets o p.rest n i m)) → PutsClasses o p.rest n (suc b) (class_in o n b) us done
        grown g us done x more new is = record {
          shapes = g.front ++ x ∷ [];
          puts = more;
          many = let l = length_app g.front (x ∷ []) in let k = g.size in omega arith;
          each =
              let k = g.size in
              let e : class_in o n b ≡ 1 + length g.front = omega arith in
              classes_snoc p.rest (suc b) 1 g.front x (classes_next p.rest b 1 g.front (omega arith) g.lower) (subst (λ z. IsClassShape o p.rest n (suc b) z x) e new);
          most = most_next (class_in o n b) (omega arith) (omega arith);
          done_is = is;
        }

        pub further_nothing : (q : TaskState) → AddsNothing o n b p q → PutsClasses o p.rest n (suc b) (class_in o n b) ts p.done
        further_nothing q a = grown topmost ts p.done topmost.top (subst (λ z. PutsShapes o ts z) topmost.shapes_are f.puts) new (done_same q a)
          where
            new : IsClassShape o p.rest n (suc b) (class_in o n b) topmost.top
            new = record {
              nodes = λ m. (
                (λ g. let y = (topmost.class.nodes m).0 g in (y.0, below_next b y.0 y.1, y.2, y.3)),
                λ y. elim (below_cases b y.0 y.1) [
                  | inl e ↦
                      let g = (f.done_is m).0 (a.met m (subst (λ z. Meets o p.rest n z m) e y.3)) in
                      (topmost.class.nodes m).1 (g.0, g.1, meets_class t p h g.0 y.0 m g.2 y.3 ∙ y.2, g.2)
                  | inr l ↦ (topmost.class.nodes m).1 (y.0, l, y.2, y.3)
                ],
              );
              links = λ w. (
                (λ g. let y = (topmost.class.links w).0 g in (y.0, below_next b y.0 y.1, y.2, y.3)),
                λ y. elim (below_cases b y.0 y.1) [
                  | inl e ↦
                      let g = a.past w (subst (λ z. LeadsOff o p.rest n z w) e y.3) in
                      let k = past_class w g.0 (omega arith) g.1 g.2 in
                      (topmost.class.links w).1 (g.0, k.0, k.1, (Port n b, wire_turn o w (Port n b) (Port n g.0) g.2, root_out))
                  | inr l ↦ (topmost.class.links w).1 (y.0, l, y.2, y.3)
                ],
              );
            }
              where
                root_out : is_port_in (nodes_in p.rest) (Port n b) ≡ 0
                root_out = rw h.out refl

        module _ (q : TaskState) (x : Shape) (a : AddsPort o n b p q x) where
          abbrev mixed : Shape
          mixed = shape (λ m. topmost.top.nodes m || x.nodes m) (λ w. topmost.top.links w || x.links w)

          top_meets : (m : ℕ) → IsIn m topmost.top.nodes → (i : ℕ) × IsBelow b i × (class_in o n i ≡ class_in o n b) × Meets o p.rest n i m
          top_meets m g = (topmost.class.nodes m).0 g

          top_in : (m : ℕ) → IsIn m topmost.top.nodes → IsIn m (nodes_in p.rest)
          top_in m g = let y = top_meets m g in meets_in p.rest y.0 m y.3

          new_in : (m : ℕ) → IsIn m x.nodes → IsIn m (nodes_in p.rest)
          new_in m g = meets_in p.rest b m ((a.nodes m).0 g)

          apart : (m : ℕ) → IsIn m topmost.top.nodes → IsIn m x.nodes → ⊥
          apart m g k = let y = top_meets m g in a.fresh m k ((f.done_is m).1 (y.0, y.1, y.3))

          off : (l i m j w : ℕ) → IsWire o w (Port l i) (Port m j) → IsIn l topmost.top.nodes → IsIn m x.nodes → ⊥
          off l i m j w wire g k =
              let y = top_meets l g in
              a.fresh m k ((f.done_is m).1 (y.0, y.1, meets_on y.0 l m y.3 (joined_near o net n p.rest w l i m j wire (top_in l g) (new_in m k))))

          parts : AreParts (λ m. topmost.top.nodes m || x.nodes m) topmost.top.nodes x.nodes
          parts m = (
            ((λ g. or_cases (topmost.top.nodes m) (x.nodes m) g), λ g. elim g [ inl u ↦ or_left (topmost.top.nodes m) (x.nodes m) u | inr u ↦ or_right (topmost.top.nodes m) (x.nodes m) u ]),
            apart m,
          )

          -- a Link at n's ports isn't one at a port in the rest
          own_link : (w i l k : ℕ) (q r : OpenPoint) → IsWire o w (Port n i) q → is_port_in (nodes_in p.rest) q ≡ 0 → IsWire o w (Port l k) r → IsIn l (nodes_in p.rest) → ⊥
          own_link w i l k q r wire out wire' here = elim (wire_points o w (Port n i) q (Port l k) r wire wire') [
            | inl e ↦ not_root o net n t p h l here (port_place l n k i e.0).0
            | inr e ↦
                let one : is_port_in (nodes_in p.rest) q ≡ 1 = subst (λ z. is_port_in (nodes_in p.rest) z ≡ 1) e.0 (port_yes (nodes_in p.rest) l k here) in
                omega arith
          ]

          cross : (w : ℕ) → IsLinkOf o topmost.top w → IsLinkOf o x w → ⊥
          cross w (inl u) (inl v) =
              let y = (topmost.class.links w).0 u in
              let z = (a.links w).0 v in
              let l = y.1.1 in
              elim (wire_points o w (Port n y.0) y.3.0 (Port n b) z.0 y.3.1 z.1) [
                | inl e ↦ let k = (port_place n n b y.0 e.0).1 in omega arith
                | inr e ↦
                    let g = a.first w y.0 v (wire_turn o w (Port n y.0) (Port n b) (subst (λ q. IsWire o w (Port n y.0) q) (sym e.0) y.3.1)) in
                    omega arith
              ]
          cross w (inl u) (inr v) = let y = (topmost.class.links w).0 u in own_link w y.0 v.0 v.1 y.3.0 v.2 y.3.1 y.3.2 v.3 (new_in v.0 v.4)
          cross w (inr u) (inl v) = let z = (a.links w).0 v in own_link w b u.0 u.1 z.0 u.2 z.1 z.2 u.3 (top_in u.0 u.4)
          cross w (inr u) (inr v) = elim (wire_points o w (Port u.0 u.1) u.2 (Port v.0 v.1) v.2 u.3 v.3) [
            | inl e ↦ apart v.0 (subst (λ z. IsIn z topmost.top.nodes) (sym (port_place v.0 u.0 v.1 u.1 e.0).0) u.4) v.4
            | inr e ↦ off u.0 u.1 v.0 v.1 w (subst (λ z. IsWire o w (Port u.0 u.1) z) (sym e.0) u.3) u.4 v.4
          ]

          new_class : IsClassShape o p.rest n (suc b) (class_in o n b) mixed
          new_class = record {
            nodes = λ m. (
              (λ g. elim (or_cases (topmost.top.nodes m) (x.nodes m) g) [
                | inl u ↦ let y = (topmost.class.nodes m).0 u in (y.0, below_next b y.0 y.1, y.2, y.3)
                | inr u ↦ (b, (aux, omega arith), refl, (a.nodes m).0 u)
              ]),
              λ y. elim (below_cases b y.0 y.1) [
                | inl e ↦ or_right (topmost.top.nodes m) (x.nodes m) ((a.nodes m).1 (subst (λ z. Meets o p.rest n z m) e y.3))
                | inr l ↦ or_left (topmost.top.nodes m) (x.nodes m) ((topmost.class.nodes m).1 (y.0, l, y.2, y.3))
              ],
            );
            links = λ w. (
              (λ g. elim (or_cases (topmost.top.links w) (x.links w) g) [
                | inl u ↦ let y = (topmost.class.links w).0 u in (y.0, below_next b y.0 y.1, y.2, y.3)
                | inr u ↦ (b, (aux, omega arith), refl, (a.links w).0 u)
              ]),
              λ y. elim (below_cases b y.0 y.1) [
                | inl e ↦ or_right (topmost.top.links w) (x.links w) ((a.links w).1 (subst (λ z. LeadsOff o p.rest n z w) e y.3))
                | inr l ↦ or_left (topmost.top.links w) (x.links w) ((topmost.class.links w).1 (y.0, l, y.2, y.3))
              ],
            );
          }

          pub further_adds : (vs us : List Task) → PutsShapes o vs (f.shapes ++ x ∷ []) → us ≡ vs ++ Make joint.Mix ∷ [] → PutsClasses o p.rest n (suc b) (class_in o n b) us q.done
          further_adds vs us more e =
              subst (λ z. PutsClasses o p.rest n (suc b) (class_in o n b) z q.done) (sym e)
              (grown topmost (vs ++ Make joint.Mix ∷ []) q.done mixed
              (puts_make o vs joint.Mix topmost.front (topmost.top ∷ x ∷ []) mixed
              (subst (λ z. PutsShapes o vs z) (ap (λ z. z ++ x ∷ []) topmost.shapes_are ∙ append_assoc topmost.front (topmost.top ∷ []) (x ∷ [])) more)
              (fits_mix o net mixed.nodes topmost.top.nodes x.nodes topmost.top.links x.links parts off cross))
              new_class (done_adds q x a))

  -- ---- the graft

  -- the class, from c on, of a node; 0 if it has none
  abbrev number : ℕ → List Shape → ℕ → ℕ
  number c [] m = 0
  number c (x ∷ xs) m = cond (x.nodes m) c (number (suc c) xs m)

  module _ (agent : IsAgent o n) (t : ℕ) (p : TaskState) (h : IsPlanAtTurn o n t p) (b : ℕ) (f : PutsClasses o p.rest n b (classes_of o n) p.tasks p.done) (all : ports_of o n ≤ b) where
    number_is : (c : ℕ) (xs : List Shape) → AreClassShapes o p.rest n b c xs → (m d : ℕ) → number c xs m ≡ suc d → (i : ℕ) × IsBelow b i × (class_in o n i ≡ suc d) × Meets o p.rest n i m
    number_is c [] k m d e = absurd (omega arith)
    number_is c (x ∷ xs) k m d e = go (x.nodes m) refl e (number_is (suc c) xs k.1 m d)
      where
        go : (y : Bool) → x.nodes m ≡ y → cond y c (number (suc c) xs m) ≡ suc d → (number (suc c) xs m ≡ suc d → (i : ℕ) × IsBelow b i × (class_in o n i ≡ suc d) × Meets o p.rest n i m) → (i : ℕ) × IsBelow b i × (class_in o n i ≡ suc d) × Meets o p.rest n i m
        go true g e rest = let z = (k.0.nodes m).0 g in (z.0, z.1, z.2 ∙ e, z.3)
        go false g e rest = rest e

    number_of : (c : ℕ) (xs : List Shape) → AreClassShapes o p.rest n b c xs → (m i : ℕ) → IsBelow b i → Meets o p.rest n i m → c ≤ class_in o n i → class_in o n i < c + length xs → number c xs m ≡ class_in o n i
    number_of c [] k m i bl x le lt = absurd (omega arith)
    number_of c (y ∷ ys) k m i bl x le lt = go (y.nodes m) refl (λ d. number_of (suc c) ys k.1 m i bl x (low d) (high d))
      where
        low : class_in o n i ≢ c → suc c ≤ class_in o n i
        low d = omega arith

        high : class_in o n i ≢ c → class_in o n i < suc c + length ys
        high d = omega arith

        go : (z : Bool) → y.nodes m ≡ z → (class_in o n i ≢ c → number (suc c) ys m ≡ class_in o n i) → cond z c (number (suc c) ys m) ≡ class_in o n i
        go true g rest = let u = (k.0.nodes m).0 g in sym u.2 ∙ meets_class t p h u.0 i m u.3 x
        go false g rest = rest (λ e. not_both (y.nodes m) ((k.0.nodes m).1 (i, bl, e, x)) g)

    abbrev part : ℕ → ℕ
    part m = number 1 f.shapes m

    abbrev whole : ℕ → Bool
    whole m = nat_eq m n || nodes_in p.done m

    aux_class : (i : ℕ) → IsBelow b i → i < ports_of o n → IsOpenPoint o (Port n i) → 0 < class_in o n i
    aux_class i bl pl point = elim (at_most 1 (class_in o n i)) [
      | inl u ↦ u
      | inr u ↦ let e = (net.principal n i agent point).0 (omega arith) in let l = bl.0 in absurd (omega arith)
    ]

    -- a node that a port below meets is of the port's class
    part_of : (m i : ℕ) → IsBelow b i → Meets o p.rest n i m → (part m ≡ class_in o n i) × (0 < class_in o n i)
    part_of m i bl x =
        let pl = in_ports o net x.0 n i (Port x.1 x.2) x.3 in
        let u = aux_class i bl pl (net.points x.0 (Port n i) (Port x.1 x.2) x.3) in
        let v = f.most i bl pl in
        let w = f.many in
        (number_of 1 f.shapes f.each m i bl x (omega arith) (omega arith), u)

    part_is : (m c : ℕ) → 0 < c → part m ≡ c → (i : ℕ) × IsBelow b i × (class_in o n i ≡ c) × Meets o p.rest n i m
    part_is m zero l e = absurd (omega arith)
    part_is m (suc c) l e = number_is 1 f.shapes f.each m c e

    other : (m : ℕ) → IsIn m whole → m ≢ n → (i : ℕ) × IsBelow b i × Meets o p.rest n i m
    other m g d = elim (or_cases (nat_eq m n) (nodes_in p.done m) g) [ inl e ↦ absurd (d (eqb-true m n e)) | inr e ↦ (f.done_is m).0 e ]

    in_whole : (m i : ℕ) → IsBelow b i → Meets o p.rest n i m → IsIn m whole
    in_whole m i bl x = or_right (nat_eq m n) (nodes_in p.done m) ((f.done_is m).1 (i, bl, x))

    zero_root : part n ≡ 0
    zero_root = go (part n) refl
      where
        go : (c : ℕ) → part n ≡ c → part n ≡ 0
        go zero e = e
        go (suc c) e = let x = part_is n (suc c) (omega arith) e in absurd (not_root o net n t p h n (meets_in p.rest x.0 n x.3) refl)

    part_most : (m : ℕ) → part m ≤ classes_of o n
    part_most m = go (part m) refl
      where
        go : (c : ℕ) → part m ≡ c → part m ≤ classes_of o n
        go zero e = omega arith
        go (suc c) e =
            let x = part_is m (suc c) (omega arith) e in
            let v = x.3 in
            let u = f.most x.0 x.1 (in_ports o net v.0 n x.0 (Port v.1 v.2) v.3) in
            let w = x.2 in
            omega arith

    is_graft : IsGraft (open_graph o) n (classes_of o n) whole part
    is_graft = record {
      root = or_left (nat_eq n n) (nodes_in p.done n) (eq-eqb n n refl);
      others = λ m g d. let x = other m g d in let u = part_of m x.0 x.1 x.2 in let a = u.0 in let c = u.1 in omega arith;
      most = λ m g d. part_most m;
      own = λ i j w. (h.splits i).own j w.0 w.1;
      to = λ i j m g d w.
          let x = other m g d in
          (part_of m x.0 x.1 x.2).0 ∙ meets_class t p h x.0 i m x.2 (w.0, m, j, w.1, alone m (meets_in p.rest x.0 m x.2));
      among = λ l m i j g k d e w.
          let x = other l g d in
          let y = other m k e in
          let near = joined_near o net n p.rest w.0 l i m j w.1 (meets_in p.rest x.0 l x.2) (meets_in p.rest y.0 m y.2) in
          let z : Meets o p.rest n x.0 m = (x.2.0, x.2.1, x.2.2, x.2.3, joined_on o p.rest x.2.1 l m x.2.4 near) in
          (part_of l x.0 x.1 x.2).0 ∙ sym (part_of m x.0 x.1 z).0;
    }

    abbrev class_nodes : ℕ → ℕ → Bool
    class_nodes c m = whole m && nat_eq (part m) c

    abbrev class_links : ℕ → ℕ → Bool
    class_links c w = hanging o net n whole part agent zero_root (λ m g. part_most m) is_graft c (length o.wires) w

    class_rest : (c m : ℕ) → 0 < c → IsIn m (class_nodes c) → IsIn m (nodes_in p.rest)
    class_rest c m l g = let x = part_is m c l (eqb-true (part m) c (both_right (whole m) (nat_eq (part m) c) g)) in meets_in p.rest x.0 m x.3

    -- the shape of a class is that of its net
    class_shape : (c : ℕ) (x : Shape) → 0 < c → IsClassShape o p.rest n b c x → x ≡ shape (class_nodes c) (class_links c)
    class_shape c x l k = shape_same x (class_nodes c) (class_links c) nodes links
      where
        nodes : (m : ℕ) → x.nodes m ≡ class_nodes c m
        nodes m = same_test (x.nodes m) (class_nodes c m)
            (λ g. let y = (k.nodes m).0 g in and_from (whole m) (nat_eq (part m) c) (in_whole m y.0 y.1 y.3) (eq-eqb (part m) c ((part_of m y.0 y.1 y.3).0 ∙ y.2)))
            (λ g. (k.nodes m).1 (part_is m c l (eqb-true (part m) c (both_right (whole m) (nat_eq (part m) c) g))))

        outside : (q : OpenPoint) → is_port_in (nodes_in p.rest) q ≡ 0 → is_port_in (class_nodes c) q ≡ 0
        outside q z = elim (at_most 1 (is_port_in (class_nodes c) q)) [
          | inl u ↦
              let v = port_most (class_nodes c) q in
              let y = port_own (class_nodes c) q (omega arith) in
              let one : is_port_in (nodes_in p.rest) q ≡ 1 = subst (λ z. is_port_in (nodes_in p.rest) z ≡ 1) (sym y.2) (port_yes (nodes_in p.rest) y.0 y.1 (class_rest c y.0 l y.3)) in
              absurd (omega arith)
          | inr u ↦ omega arith
        ]

        off_rest : (i w : ℕ) (q : OpenPoint) → IsBelow b i → class_in o n i ≡ c → IsWire o w (Port n i) q → is_port_in (class_nodes c) q ≡ 0 → is_port_in (nodes_in p.rest) q ≡ 0
        off_rest i w q bl e wire z = elim (at_most 1 (is_port_in (nodes_in p.rest) q)) [
          | inl u ↦
              let v = port_most (nodes_in p.rest) q in
              let y = port_own (nodes_in p.rest) q (omega arith) in
              let x : Meets o p.rest n i y.0 = (w, y.0, y.1, subst (λ z. IsWire o w (Port n i) z) y.2 wire, alone y.0 y.3) in
              let one : is_port_in (class_nodes c) q ≡ 1 = subst (λ z. is_port_in (class_nodes c) z ≡ 1) (sym y.2) (port_yes (class_nodes c) y.0 y.1 (and_from (whole y.0) (nat_eq (part y.0) c) (in_whole y.0 i bl x) (eq-eqb (part y.0) c ((part_of y.0 i bl x).0 ∙ e)))) in
              absurd (omega arith)
          | inr u ↦ omega arith
        ]

        links : (w : ℕ) → x.links w ≡ class_links c w
        links w = same_test (x.links w) (class_links c w)
            (λ g.
            let y = (k.links w).0 g in
            hanging_yes o net n whole part agent zero_root (λ m g. part_most m) is_graft c (length o.wires) w (wire_within o w (Port n y.0) y.3.0 y.3.1) (y.0, y.2, (y.3.0, y.3.1, outside y.3.0 y.3.2)))
            (λ g.
            let y = (hanging_is o net n whole part agent zero_root (λ m g. part_most m) is_graft c (length o.wires) w g).1 in
            let small = in_ports o net w n y.0 y.2.0 y.2.1 in
            let e = y.1 in
            let z : y.0 ≢ 0 = λ u. let v = (net.principal n y.0 agent (net.points w (Port n y.0) y.2.0 y.2.1)).1 u in omega arith in
            let bl : IsBelow b y.0 = (omega arith, omega arith) in
            (k.links w).1 (y.0, bl, e, (y.2.0, y.2.1, off_rest y.0 w y.2.0 bl e y.2.1 y.2.2)))

    -- a part for each class
    same_length : (xs : List Shape) (ys : List Part) → HaveShapes o xs ys → length ys ≡ length xs
    same_length [] [] k = refl
    same_length [] (y ∷ ys) k = absurd k
    same_length (x ∷ xs) [] k = absurd k
    same_length (x ∷ xs) (y ∷ ys) k = ap suc (same_length xs ys k.1)

    class_tops : (c : ℕ) (xs : List Shape) (ys : List Part) → 0 < c → AreClassShapes o p.rest n b c xs → HaveShapes o xs ys → (i : ℕ) (y : Part) → slice_get ys i ≡ Some y → HasShape o (shape (class_nodes (c + i)) (class_links (c + i))) y
    class_tops c [] [] l k s i y g = cc
    class_tops c [] (z ∷ ys) l k s i y g = absurd s
    class_tops c (x ∷ xs) [] l k s i y g = absurd s
    class_tops c (x ∷ xs) (z ∷ ys) l k s zero y g =
        let e : z ≡ y = some_same (Some z) z y refl g in
        let d : c ≡ c + 0 = omega arith in
        subst (λ u. HasShape o (shape (class_nodes u) (class_links u)) y) d (subst (λ u. HasShape o (shape (class_nodes c) (class_links c)) u) e (subst (λ u. HasShape o u z) (class_shape c x l k.0) s.0))
    class_tops c (x ∷ xs) (z ∷ ys) l k s (suc i) y g =
        let d : suc c + i ≡ c + suc i = omega arith in
        subst (λ u. HasShape o (shape (class_nodes u) (class_links u)) y) d (class_tops (suc c) xs ys (omega arith) k.1 s.1 i y g)

    fits_graft : (count : ℕ) → count ≡ classes_of o n → Fits o (joint.Graft n count) f.shapes (shape whole no_wires)
    fits_graft count e = record {
      many = f.many ∙ sym e;
      builds = λ names from l s. built_over o net whole no_wires (Graft n names) names from
          (fit_graft o net n whole part agent zero_root (λ m g. part_most m) is_graft from (same_length f.shapes from s ∙ f.many) (class_tops 1 f.shapes from (omega arith) f.each s) names) refl;
    }

    pub net_graft : (q : TaskState) (count : ℕ) → count ≡ classes_of o n → q ≡ with_task p (Make (joint.Graft n count)) → PutsShapes o q.tasks (net_of n q.done ∷ [])
    net_graft q count e r = subst (λ z. PutsShapes o z.tasks (net_of n z.done ∷ [])) (sym r) (puts_make o p.tasks (joint.Graft n count) [] f.shapes (net_of n p.done) f.puts (fits_graft count e))

  -- ---- plan by plan

  pub classes_start : (p : TaskState) → IsPlanAtTurn o n 0 p → p.tasks ≡ [] → HasClasses o n 1 0 p
  classes_start p h e = record {
    shapes = [];
    puts = subst (λ z. PutsShapes o z []) (sym e) (puts_none o);
    many = refl;
    each = tt;
    most = λ i bl pl. let a = bl.0 in let b = bl.1 in absurd (omega arith);
    done_is = λ m. ((λ g. let l = ((h.done m).0 g).4 in absurd (omega arith)), λ y. let a = y.1.0 in let b = y.1.1 in absurd (omega arith));
  }

  pub skip_has : (b begun k : ℕ) (p q : TaskState) → HasClasses o n b begun p → Skips k p q → HasClasses o n b (begun + k) q
  skip_has b begun k p q f s =
      subst (λ z. PutsClasses o z n b (begun + k) q.tasks q.done) (sym s.rest)
      (subst (λ z. PutsClasses o p.rest n b (begun + k) q.tasks z) (sym s.done) (skip_classes p.rest b begun k p.tasks q.tasks p.done f (λ xs g. s.puts o net xs g)))

  point_of : (i : ℕ) → i < ports_of o n → IsOpenPoint o (Port n i)
  point_of i l = at_ports i (slice_get o.nodes n) l

  pub some_class : (i : ℕ) → IsAgent o n → 0 < i → i < ports_of o n → 0 < class_in o n i
  some_class i agent aux l = elim (at_most 1 (class_in o n i)) [
    | inl u ↦ u
    | inr u ↦ let e = (net.principal n i agent (point_of i l)).0 (omega arith) in absurd (omega arith)
  ]

  pub begun_most : (b begun : ℕ) → IsAgent o n → IsBegunClass o n b begun → begun ≤ classes_of o n
  begun_most b begun agent (inl e) = omega arith
  begun_most b begun agent (inr x) = let u = net.classes n x.0 agent (point_of x.0 x.2) in let v = x.3 in omega arith

  module _ (agent : IsAgent o n) (t : ℕ) (p : TaskState) (h : IsPlanAtTurn o n t p) (b : ℕ) (aux : 0 < b) where
    pub first_came : (begun : ℕ) → HasClasses o n b begun p → class_in o n b ≡ suc begun → (q : TaskState) → q.rest ≡ p.rest → WhatPort o n b p q true → HasClasses o n (suc b) (class_in o n b) q
    first_came begun f next q same w = subst (λ z. PutsClasses o z n (suc b) (class_in o n b) q.tasks q.done) (sym same)
        (first_adds agent t p h b aux begun p.tasks f next q q.tasks w.0 w.1.puts w.1)

    pub further_came : HasClasses o n b (class_in o n b) p → 0 < class_in o n b → (q r : TaskState) → q.rest ≡ p.rest → WhatPort o n b p q true → r ≡ with_task q (Make joint.Mix) → HasClasses o n (suc b) (class_in o n b) r
    further_came f some q r same w e = subst (HasClasses o n (suc b) (class_in o n b)) (sym e)
        (subst (λ z. PutsClasses o z n (suc b) (class_in o n b) (q.tasks ++ Make joint.Mix ∷ []) q.done) (sym same)
        (further_adds agent t p h b aux (class_in o n b) p.tasks f refl some q w.0 w.1 q.tasks (q.tasks ++ Make joint.Mix ∷ []) (w.1.puts f.shapes f.puts) refl))

    pub further_none : HasClasses o n b (class_in o n b) p → 0 < class_in o n b → (q : TaskState) → WhatPort o n b p q false → HasClasses o n (suc b) (class_in o n b) q
    further_none f some q w = subst (HasClasses o n (suc b) (class_in o n b)) (sym w.same) (further_nothing agent t p h b aux (class_in o n b) p.tasks f refl some q w)
