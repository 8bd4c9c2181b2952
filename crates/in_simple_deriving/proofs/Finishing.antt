-- The first tasks, and the steps when no task is left.
use Rattle.std.proofs.Common.{◌≡◌, ◌↔◌, ◌<◌, ◌+◌, ◌-◌, ℕ, suc, Bool, true, false, cond, ◌||◌, nat_eq, nat_lt, Option, Some, None, List, [], ◌∷◌, ◌++◌, length, map, slice_get, refl, sym, subst, ap, inl, inr, ◌∙◌, eq-eqb, eqb-true, ltb-true, lt-ltb, arith}
use Rattle.std.proofs.lemmas.Option.{slice_get_within}
use Rattle.in_open_nets.specs.declared.open_nets.OpenPoint.{OpenPoint}
use Rattle.in_open_nets.specs.declared.open_nets.OpenPoint.TheVariants.{Port, Free}
use Rattle.in_simple_deriving.specs.declared.plans.StackStep.TheVariants as joint
use Rattle.in_simple_deriving.specs.declared.plans.Task.{Task}
use Rattle.in_simple_deriving.specs.declared.plans.Task.TheVariants.{Derive, Make}
use Rattle.in_open_nets.specs.Constructions.{IsIn}
use Rattle.in_open_nets.specs.OpenNets.{OpenNet, IsNode, IsWire, IsOpenNet}
use Rattle.in_open_nets.specs.declared.derivations.Step.{Step}
use Rattle.in_open_nets.specs.Derivations.{Part, named, times, is_free, AreEarlier, IsDerivation}
use Rattle.in_open_nets.specs.Members.{nodes_in}
use Rattle.in_simple_deriving.specs.Turns.{HeadedPart}
use Rattle.in_simple_deriving.specs.Stacks.{Shape, shape, no_wires, leads_out, HasShape, HaveShapes, times_node, IsLinkOf, IsStack, RunsTasks, are_free, loose_in, loose_below, begun_with, SetsBeside, EndsInWhole, IsUnderWay, Yields, done}
use Rattle.in_base.proofs.Places.{some_same}
use Rattle.in_open_nets.proofs.Public.{not_both, same_test, point_node, port_yes, one_other, earlier_of, both_left, both_right, wire_turn}
use Rattle.in_open_nets.proofs.Public.{wire_points, same_nat, in_length, times_some}
use Rattle.in_simple_deriving.proofs.Make.{port_most}
use Rattle.in_simple_deriving.proofs.Joining.{shape_same, fits_empty, fits_link, fits_mix}
use Rattle.in_simple_deriving.specs.TakenOrder.{AreJointsOf, AreTaken, links_from, with_nodes, without}
use Rattle.in_simple_deriving.proofs.Taking.{yields_makes, yields_part}
use Rattle.in_simple_deriving.proofs.Stacking.{none_more, stack_none, runs_make}
use Rattle.std.proofs.lemmas.Bool.{and_from, or_cases, or_left, or_right, false_from_ne_true}

-- ---- loose wires

are_free_points : (x : Option (OpenPoint × OpenPoint)) → are_free x ≡ true → (k : ℕ) × (l : ℕ) × (x ≡ Some (Free k, Free l))
are_free_points None h = absurd (not_both false h refl)
are_free_points (Some (Free k, Free l)) h = (k, l, refl)
are_free_points (Some (Free k, Port n i)) h = absurd (not_both false h refl)
are_free_points (Some (Port n i, q)) h = absurd (not_both false h refl)

pub loose_points : (o : OpenNet) (w : ℕ) → loose_in o w ≡ true → (k : ℕ) × (l : ℕ) × (slice_get o.wires w ≡ Some (Free k, Free l))
loose_points o w h = are_free_points (slice_get o.wires w) h

loose_yes : (o : OpenNet) (w k l : ℕ) → IsWire o w (Free k) (Free l) → loose_in o w ≡ true
loose_yes o w k l (inl h) = ap are_free h
loose_yes o w k l (inr h) = ap are_free h

-- a port is at no loose wire
pub loose_no_port : (o : OpenNet) (w n i : ℕ) (q : OpenPoint) → loose_in o w ≡ true → IsWire o w (Port n i) q → ⊥
loose_no_port o w n i q h wire =
    let y = loose_points o w h in
    elim (wire_points o w (Free y.0) (Free y.1) (Port n i) q (inl y.2) wire) [
      | inl e ↦ let f : ◌≡◌ {A = OpenPoint} (Port n i) (Free y.0) = e.0 in cc
      | inr e ↦ let f : ◌≡◌ {A = OpenPoint} (Port n i) (Free y.1) = e.0 in cc
    ]

pub below_small : (o : OpenNet) (b w : ℕ) → IsIn w (loose_below o b) → (w < b) × IsIn w (loose_in o)
below_small o b w h = (ltb-true w b (both_left (nat_lt w b) (loose_in o w) h), both_right (nat_lt w b) (loose_in o w) h)

below_in : (o : OpenNet) (b w : ℕ) → w < b → IsIn w (loose_in o) → IsIn w (loose_below o b)
below_in o b w l h = and_from (nat_lt w b) (loose_in o w) (lt-ltb w b l) h

pub below_none : (o : OpenNet) (w : ℕ) → loose_below o 0 w ≡ false
below_none o w = false_from_ne_true (loose_below o 0 w) (λ h. let l = (below_small o 0 w h).0 in omega arith)

pub below_past : (o : OpenNet) (b : ℕ) → loose_in o b ≡ false → (w : ℕ) → loose_below o b w ≡ loose_below o (b + 1) w
below_past o b off w = same_test (loose_below o b w) (loose_below o (b + 1) w)
    (λ h. let x = below_small o b w h in let l = x.0 in below_in o (b + 1) w (omega arith) x.1)
    (λ h.
    let x = below_small o (b + 1) w h in
    let l = x.0 in
    elim (same_nat w b) [ inl e ↦ absurd (not_both (loose_in o w) x.1 (ap (loose_in o) e ∙ off)) | inr d ↦ below_in o b w (omega arith) x.1 ])

pub below_more : (o : OpenNet) (b : ℕ) → loose_in o b ≡ true → (w : ℕ) → (loose_below o b w || nat_eq w b) ≡ loose_below o (b + 1) w
below_more o b on w = same_test (loose_below o b w || nat_eq w b) (loose_below o (b + 1) w)
    (λ h. elim (or_cases (loose_below o b w) (nat_eq w b) h) [
      | inl g ↦ let x = below_small o b w g in let l = x.0 in below_in o (b + 1) w (omega arith) x.1
      | inr g ↦ let e = eqb-true w b g in below_in o (b + 1) w (omega arith) (ap (loose_in o) e ∙ on)
    ])
    (λ h.
    let x = below_small o (b + 1) w h in
    let l = x.0 in
    elim (same_nat w b) [ inl e ↦ or_right (loose_below o b w) (nat_eq w b) (eq-eqb w b e) | inr d ↦ or_left (loose_below o b w) (nat_eq w b) (below_in o b w (omega arith) x.1) ])

pub below_all : (o : OpenNet) (w : ℕ) → loose_below o (length o.wires) w ≡ loose_in o w
below_all o w = same_test (loose_below o (length o.wires) w) (loose_in o w) (λ h. (below_small o (length o.wires) w h).1)
    (λ h. let y = loose_points o w h in below_in o (length o.wires) w (slice_get_within o.wires w (Free y.0, Free y.1) y.2) h)

pub beside_start : (o : OpenNet) (begun : Bool) → SetsBeside o begun 0 begun []
beside_start o true = λ whole off. ap (λ z. z ∷ []) (shape_same (shape whole no_wires) whole (loose_below o 0) (λ n. refl) (λ w. sym (below_none o w)))
beside_start o false = (refl, refl, λ w l. absurd (omega arith))

pub beside_past : (o : OpenNet) (begun : Bool) (b : ℕ) (some : Bool) (ts : List Task) → loose_in o b ≡ false → SetsBeside o begun b some ts → SetsBeside o begun (b + 1) some ts
beside_past o begun b true ts off h = λ whole e. subst (λ z. RunsTasks o ts (begun_with begun whole) (z ∷ [])) (shape_same (shape whole (loose_below o b)) whole (loose_below o (b + 1)) (λ n. refl) (λ w. below_past o b off w)) (h whole e)
beside_past o begun b false ts off h = (h.0, h.1, λ w l. elim (same_nat w b) [ inl e ↦ ap (loose_in o) e ∙ off | inr d ↦ h.2 w (omega arith) ])

-- ---- the first tasks

-- all nodes are derived, and the loose wires' Links are set beside them
pub under_all : (o : OpenNet) (c : HeadedPart) (links : List Task) → length c.nodes ≡ length o.nodes → 0 < length o.nodes → ((n : ℕ) → n < length o.nodes → nodes_in c.nodes n ≡ true) → EndsInWhole o true links → links ≡ map Make (links_from o true 0 (length o.wires)) → IsUnderWay o (Derive c ∷ links) [] []
under_all o c links size some all h made = record {
  whole = nodes_in c.nodes;
  all = λ n. ((λ g. let l = in_length c.nodes n g in omega arith), all n);
  shapes = [];
  stack = stack_none o;
  runs = h (nodes_in c.nodes) (λ e. absurd (not_both true refl e));
  order = λ js y.
      let x = yields_part o c (links_from o true 0 (length o.wires)) js (subst (λ z. Yields o (Derive c ∷ z) js) made y) in
      (js, subst (AreJointsOf o) (sym x.2) (with_nodes (nodes_in c.nodes) x.0 some (λ n. ((λ g. let l = in_length c.nodes n g in omega arith), all n)) x.1), refl);
}

pub under_none : (o : OpenNet) (links : List Task) → length o.nodes ≡ 0 → EndsInWhole o false links → links ≡ map Make (links_from o false 0 (length o.wires)) → IsUnderWay o links [] []
under_none o links size h made = record {
  whole = λ n. false;
  all = λ n. ((λ g. absurd (not_both false g refl)), λ l. absurd (omega arith));
  shapes = [];
  stack = stack_none o;
  runs = h (λ n. false) (λ e n. refl);
  order = λ js y. (js, subst (AreJointsOf o) (sym (yields_makes o (links_from o false 0 (length o.wires)) js (subst (λ z. Yields o z js) made y))) (without size), refl);
}

-- ---- Links beside the begun net

module _ (o : OpenNet) (net : IsOpenNet o) where
  link_runs : (b : ℕ) → loose_in o b ≡ true → (ts : List Task) (a c : List Shape) → RunsTasks o ts a c → RunsTasks o (ts ++ Make (joint.Link b) ∷ []) a (c ++ shape (λ n. false) (λ w. nat_eq w b) ∷ [])
  link_runs b on ts a c r =
      let y = loose_points o b on in
      runs_make o ts (joint.Link b) a c [] (shape (λ n. false) (λ w. nat_eq w b)) (subst (λ z. RunsTasks o ts a z) (sym (none_more c)) r) (fits_link o net b (Free y.0) (Free y.1) (inl y.2))

  pub beside_first : (begun : Bool) (b : ℕ) (ts : List Task) → loose_in o b ≡ true → SetsBeside o begun b false ts → SetsBeside o begun (b + 1) true (ts ++ Make (joint.Link b) ∷ [])
  beside_first begun b ts on h = λ whole off.
      let s = off h.0 in
      subst (λ z. RunsTasks o (z ++ Make (joint.Link b) ∷ []) (begun_with begun whole) (shape whole (loose_below o (b + 1)) ∷ [])) (sym h.1)
      (subst (λ z. RunsTasks o (Make (joint.Link b) ∷ []) (begun_with z whole) (shape whole (loose_below o (b + 1)) ∷ [])) (sym h.0)
      (subst (λ z. RunsTasks o (Make (joint.Link b) ∷ []) [] (z ∷ [])) (shape_same (shape (λ n. false) (λ w. nat_eq w b)) whole (loose_below o (b + 1)) (λ n. sym (s n)) (λ w. only w)) (link_runs b on [] [] [] refl)))
    where
      only : (w : ℕ) → nat_eq w b ≡ loose_below o (b + 1) w
      only w = same_test (nat_eq w b) (loose_below o (b + 1) w)
          (λ g. let e = eqb-true w b g in below_in o (b + 1) w (omega arith) (ap (loose_in o) e ∙ on))
          (λ g.
          let x = below_small o (b + 1) w g in
          let l = x.0 in
          elim (same_nat w b) [ inl e ↦ eq-eqb w b e | inr d ↦ absurd (not_both (loose_in o w) x.1 (h.2 w (omega arith))) ])

  pub beside_more : (begun : Bool) (b : ℕ) (ts : List Task) → loose_in o b ≡ true → SetsBeside o begun b true ts → SetsBeside o begun (b + 1) true ((ts ++ Make (joint.Link b) ∷ []) ++ Make joint.Mix ∷ [])
  beside_more begun b ts on h = λ whole off.
      subst (λ z. RunsTasks o ((ts ++ Make (joint.Link b) ∷ []) ++ Make joint.Mix ∷ []) (begun_with begun whole) (z ∷ [])) (shape_same (shape whole (λ w. loose_below o b w || nat_eq w b)) whole (loose_below o (b + 1)) (λ n. refl) (λ w. below_more o b on w))
      (runs_make o (ts ++ Make (joint.Link b) ∷ []) joint.Mix (begun_with begun whole) [] (shape whole (loose_below o b) ∷ shape (λ n. false) (λ w. nat_eq w b) ∷ []) (shape whole (λ w. loose_below o b w || nat_eq w b))
      (link_runs b on ts (begun_with begun whole) (shape whole (loose_below o b) ∷ []) (h whole off))
      (fits_mix o net whole whole (λ n. false) (loose_below o b) (λ w. nat_eq w b)
      (λ m. (((λ g. inl g), λ g. elim g [ inl e ↦ e | inr e ↦ absurd (not_both false e refl) ]), λ g k. not_both false k refl))
      (λ l i m j w g x y. not_both false y refl)
      (cross whole)))
    where
      cross : (whole : ℕ → Bool) (w : ℕ) → IsLinkOf o (shape whole (loose_below o b)) w → IsLinkOf o (shape (λ n. false) (λ w. nat_eq w b)) w → ⊥
      cross whole w y (inr z) = not_both false z.4 refl
      cross whole w (inl y) (inl z) = let e = (below_small o b w y).0 in let f = eqb-true w b z in omega arith
      cross whole w (inr y) (inl z) = loose_no_port o w y.0 y.1 y.2 (ap (loose_in o) (eqb-true w b z) ∙ on) y.3

  pub beside_end : (begun : Bool) (ts : List Task) → SetsBeside o begun (length o.wires) true ts → EndsInWhole o begun ts
  beside_end begun ts h = λ whole off. subst (λ z. RunsTasks o ts (begun_with begun whole) (z ∷ [])) (shape_same (shape whole (loose_below o (length o.wires))) whole (loose_in o) (λ n. refl) (λ w. below_all o w)) (h whole off)

  pub beside_nothing : (begun : Bool) (ts : List Task) → SetsBeside o begun (length o.wires) false ts → EndsInWhole o begun (ts ++ Make joint.Empty ∷ [])
  beside_nothing begun ts h = λ whole off.
      let s = off h.0 in
      subst (λ z. RunsTasks o (z ++ Make joint.Empty ∷ []) (begun_with begun whole) (shape whole (loose_in o) ∷ [])) (sym h.1)
      (subst (λ z. RunsTasks o (Make joint.Empty ∷ []) (begun_with z whole) (shape whole (loose_in o) ∷ [])) (sym h.0)
      (subst (λ z. RunsTasks o (Make joint.Empty ∷ []) [] (z ∷ [])) (shape_same (shape (λ n. false) no_wires) whole (loose_in o) (λ n. sym (s n)) (λ w. sym (none w)))
      (runs_make o [] joint.Empty [] [] [] (shape (λ n. false) no_wires) refl (fits_empty o net))))
    where
      none : (w : ℕ) → loose_in o w ≡ false
      none w = false_from_ne_true (loose_in o w) (λ g. let y = loose_points o w g in not_both (loose_in o w) g (h.2 w (slice_get_within o.wires w (Free y.0, Free y.1) y.2)))

  -- ---- the end

  pub last_ends : (whole : ℕ → Bool) → ((n : ℕ) → IsIn n whole ↔ IsNode o n) → (w : ℕ) (p q : OpenPoint) → IsWire o w p q → leads_out whole p q + cond (loose_in o w) 1 0 ≡ is_free q
  last_ends whole all w p (Port m j) h =
      let a = port_yes whole m j ((all m).1 (point_node o m j (net.points w (Port m j) p (wire_turn o w p (Port m j) h)))) in
      let b = port_most whole p in
      let c : cond {A = ℕ} (loose_in o w) 1 0 ≡ 0 = ap (λ z. cond z 1 0) (false_from_ne_true (loose_in o w) (λ g. loose_no_port o w m j p g (wire_turn o w p (Port m j) h))) in
      omega arith
  last_ends whole all w (Port m j) (Free k) h =
      let a = port_yes whole m j ((all m).1 (point_node o m j (net.points w (Port m j) (Free k) h))) in
      let c : cond {A = ℕ} (loose_in o w) 1 0 ≡ 0 = ap (λ z. cond z 1 0) (false_from_ne_true (loose_in o w) (λ g. loose_no_port o w m j (Free k) g h)) in
      omega arith
  last_ends whole all w (Free l) (Free k) h = let e : cond {A = ℕ} (loose_in o w) 1 0 ≡ 1 = ap (λ z. cond z 1 0) (loose_yes o w l k h) in omega arith

  -- the one root is the last step
  module _ (steps : List Step) (roots : List ℕ) (whole : ℕ → Bool) (all : (n : ℕ) → IsIn n whole ↔ IsNode o n) (k : IsStack o steps roots (shape whole (loose_in o) ∷ [])) where
    record Root : Type 0 where
      root : ℕ
      top : Part
      roots_is : roots ≡ root ∷ []
      tops_is : k.tops ≡ top ∷ []
      small : root < length steps
      built : slice_get k.parts root ≡ Some top
      shaped : HasShape o (shape whole (loose_in o)) top

    root_of : (is : List ℕ) (ys : List Part) → roots ≡ is → k.tops ≡ ys → AreEarlier k.parts (length steps) is ys → HaveShapes o (shape whole (loose_in o) ∷ []) ys → Root
    root_of is [] e f a h = absurd h
    root_of is (y ∷ z ∷ ys) e f a h = absurd h.1
    root_of [] (y ∷ []) e f a h = absurd a
    root_of (i ∷ j ∷ is) (y ∷ []) e f a h = absurd a.2
    root_of (i ∷ []) (y ∷ []) e f a h = record { root = i; top = y; roots_is = e; tops_is = f; small = a.0; built = a.1; shaped = h.0 }

    derivation_of : Root → IsDerivation o steps
    derivation_of r = record {
      parts = k.parts;
      each = k.each;
      named_once = λ i l.
          let a = k.once i (omega arith) in
          let b = last in
          let c = ap (times i) r.roots_is in
          let d = one_other i r.root (λ e. omega arith) in
          omega arith;
      node_once = λ n l.
          let a = k.nodes n in
          let b = ap (times_node n) r.tops_is in
          let c : cond {A = ℕ} (r.top.nodes n) 1 0 ≡ 1 = ap (λ z. cond z 1 0) (r.shaped.nodes n ∙ (all n).1 l) in
          omega arith;
      some = let a = r.small in omega arith;
      ends = λ x h w p q g.
          let e : r.root ≡ length steps - 1 = let b = last in omega arith in
          let same : r.top ≡ x = some_same (slice_get k.parts (length steps - 1)) r.top x (subst (λ z. slice_get k.parts z ≡ Some r.top) e r.built) h in
          ap (λ z. z.ends q) (sym same) ∙ r.shaped.ends w p q g ∙ last_ends whole all w p q g;
    }
      where
        -- no step names the last one
        last : suc r.root ≡ length steps
        last = elim (same_nat (suc r.root) (length steps)) [
          | inl e ↦ e
          | inr d ↦
              let a = r.small in
              let b = k.once (length steps - 1) (omega arith) in
              let c = ap (times (length steps - 1)) r.roots_is in
              let g = one_other (length steps - 1) r.root (λ e. d (omega arith)) in
              let s = times_some named (length steps - 1) steps (omega arith) in
              let q = k.each s.0 s.1 s.2 in
              let l = (earlier_of k.parts s.0 (named s.1) q.2.from q.2.earlier (length steps - 1) s.3).0 in
              let m = slice_get_within steps s.0 s.1 s.2 in
              absurd (omega arith)
        ]

  pub order_done : (steps : List Step) (roots : List ℕ) → IsUnderWay o [] steps roots → AreTaken o steps
  order_done steps roots u = u.order [] done

  pub derivation_done : (steps : List Step) (roots : List ℕ) → IsUnderWay o [] steps roots → IsDerivation o steps
  derivation_done steps roots u =
      let k = subst (λ z. IsStack o steps roots z) u.runs u.stack in
      derivation_of steps roots u.whole u.all k (root_of steps roots u.whole u.all k roots k.tops refl refl k.roots_are k.shaped)
