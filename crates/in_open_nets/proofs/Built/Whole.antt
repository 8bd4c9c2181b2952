-- An open net that has a derivation is derivable.
use Rattle.std.proofs.Common.{◌≡◌, ◌<◌, ◌≤◌, ◌+◌, ◌-◌, ℕ, zero, suc, true, false, nat_eq, Some, List, [], ◌∷◌, length, slice_get, refl, sym, subst, inl, inr, ◌∙◌, eqb-true, arith}
use Rattle.std.proofs.lemmas.Bool.Decides.{eqb_tells}
use Rattle.std.proofs.lemmas.Option.{slice_get_within}
use Rattle.in_open_nets.specs.declared.open_nets.OpenPoint.TheVariants.{Port}
use Rattle.in_open_nets.specs.Constructions.{IsIn}
use Rattle.in_open_nets.specs.OpenNets.{OpenNet, IsAgentNode, IsClassNode, IsNode, IsOpenNet, IsDerivable}
use Rattle.in_open_nets.specs.declared.derivations.Step.{Step}
use Rattle.in_open_nets.specs.declared.derivations.Step.TheVariants.{Empty, Link, Given, Graft, Cut, Mix}
use Rattle.in_open_nets.specs.Derivations.{Part, named, own_nodes, is_among, nodes_of, AreEarlier, Joins, times, times_in, IsDerivation}
use Rattle.in_base.proofs.Places.{some_same}
use Rattle.in_open_nets.proofs.Reached.Links.{at_most}
use Rattle.in_open_nets.proofs.PartsOf.Sums.{not_both, some_of, one_same, one_other, in_nodes_of, of_nodes, earlier_at, earlier_of}
use Rattle.in_open_nets.proofs.Built.Balance.{step_balanced}
use Rattle.in_open_nets.proofs.Built.Sound.{IsGood, AllGood, all_balanced, step_good}
use Rattle.std.proofs.lemmas.Bool.{or_cases, or_left, or_right, cases_Bool, false_from_ne_true}
use Rattle.in_base.proofs.Each.{at_index}

pub times_among : (n : ℕ) (ns : List ℕ) → is_among n ns ≡ true → 1 ≤ times n ns
times_among n [] h = cc
times_among n (m ∷ ms) h = elim (or_cases (nat_eq n m) (is_among n ms) h) [
  | inl e ↦ let k = one_same n m (eqb-true n m e) in omega arith
  | inr e ↦ let k = times_among n ms e in omega arith
]

pub among_times : (n : ℕ) (ns : List ℕ) → 1 ≤ times n ns → is_among n ns ≡ true
among_times n [] h = absurd (omega arith)
among_times n (m ∷ ms) h = elim (eqb_tells n m) [
  | inl e ↦ or_left (nat_eq n m) (is_among n ms) e.0
  | inr e ↦ let k = one_other n m e.1 in or_right (nat_eq n m) (is_among n ms) (among_times n ms (omega arith))
]

pub times_one : (f : Step → List ℕ) (n : ℕ) (steps : List Step) (j : ℕ) (x : Step) → slice_get steps j ≡ Some x → is_among n (f x) ≡ true → 1 ≤ times_in f n steps
times_one f n [] j x h k = cc
times_one f n (y ∷ ys) zero x h k = let e = times_among n (f y) (subst (λ z. is_among n (f z) ≡ true) (sym (some_same (Some y) y x refl h)) k) in omega arith
times_one f n (y ∷ ys) (suc j) x h k = let r = times_one f n ys j x h k in omega arith

pub times_two : (f : Step → List ℕ) (n : ℕ) (steps : List Step) (i j : ℕ) (x y : Step) → i < j → slice_get steps i ≡ Some x → slice_get steps j ≡ Some y → is_among n (f x) ≡ true → is_among n (f y) ≡ true → 2 ≤ times_in f n steps
times_two f n [] i j x y l h g a b = cc
times_two f n (z ∷ zs) i zero x y l h g a b = absurd (omega arith)
times_two f n (z ∷ zs) zero (suc j) x y l h g a b =
    let e = times_among n (f z) (subst (λ z. is_among n (f z) ≡ true) (sym (some_same (Some z) z x refl h)) a) in
    let r = times_one f n zs j y g b in
    omega arith
times_two f n (z ∷ zs) (suc i) (suc j) x y l h g a b = let r = times_two f n zs i j x y (omega arith) h g a b in omega arith

pub times_some : (f : Step → List ℕ) (n : ℕ) (steps : List Step) → 1 ≤ times_in f n steps → (j : ℕ) × (x : Step) × (slice_get steps j ≡ Some x) × (is_among n (f x) ≡ true)
times_some f n [] h = absurd (omega arith)
times_some f n (y ∷ ys) h = elim (cases_Bool (is_among n (f y))) [
  | inl e ↦ (0, y, refl, e)
  | inr e ↦
      let k : times n (f y) < 1 = elim (at_most 1 (times n (f y))) [ inl u ↦ absurd (not_both (is_among n (f y)) (among_times n (f y) u) e) | inr u ↦ u ] in
      let r = times_some f n ys (omega arith) in
      (suc r.0, r.1, r.2, r.3)
]

module _ (o : OpenNet) where
  -- the nodes that are a step's own are in one step
  pub is_node : (step : Step) (n : ℕ) (xs : List Part) (x : Part) → Joins o step xs x → is_among n (own_nodes step) ≡ true → IsNode o n
  is_node Empty n xs x j h = cc
  is_node (Link l) n xs x j h = cc
  is_node (Given m) n xs x j h = elim (or_cases (nat_eq n m) false h) [
    | inl e ↦ let k = some_of IsClassNode (slice_get o.nodes m) j.0 in subst (λ z. z < length o.nodes) (sym (eqb-true n m e)) (slice_get_within o.nodes m k.0 k.1)
    | inr e ↦ cc
  ]
  is_node (Graft m is) n xs x j h = elim (or_cases (nat_eq n m) false h) [
    | inl e ↦ let k = some_of IsAgentNode (slice_get o.nodes m) j.0.agent in subst (λ z. z < length o.nodes) (sym (eqb-true n m e)) (slice_get_within o.nodes m k.0 k.1)
    | inr e ↦ cc
  ]
  is_node (Cut l a b) n xs x j h = cc
  is_node (Mix a b) n xs x j h = cc

module _ (o : OpenNet) (net : IsOpenNet o) (steps : List Step) (d : IsDerivation o steps) where
  -- a node of a part is in a step up to it
  stands : (b k : ℕ) → k < b → (step : Step) → slice_get steps k ≡ Some step → (x : Part) → slice_get d.parts k ≡ Some x → (m : ℕ) → IsIn m x.nodes → (j : ℕ) × (j ≤ k) × (y : Step) × (slice_get steps j ≡ Some y) × (is_among m (own_nodes y) ≡ true)
  stands zero k l step e x g m h = absurd (omega arith)
  stands (suc b) k l step e x g m h =
      let r = d.each k step e in
      let same : r.0 ≡ x = some_same (slice_get d.parts k) r.0 x r.1 g in
      let build = r.2 in
      let h' : r.0.nodes m ≡ true = subst (λ z. IsIn m z.nodes) (sym same) h in
      elim (or_cases (is_among m (own_nodes step)) (nodes_of build.from m) (sym (build.nodes m) ∙ h')) [
        | inl a ↦ (k, omega arith, step, e, a)
        | inr a ↦
            let f = of_nodes build.from m a in
            let i = earlier_at d.parts k (named step) build.from build.earlier f.0 f.1 f.2 in
            let il = i.1 in
            let kl = slice_get_within steps k step e in
            let s = at_index steps i.0 (omega arith) in
            let t = stands b i.0 (omega arith) s.0 s.1 f.1 i.2 m f.3 in
            let tl = t.1 in
            (t.0, omega arith, t.2, t.3, t.4)
      ]

  all_good : (k : ℕ) (is : List ℕ) (xs : List Part) → AreEarlier d.parts k is xs → ((i : ℕ) (y : Part) → i < k → slice_get d.parts i ≡ Some y → IsGood o net y) → AllGood o net xs
  all_good k [] [] e f = tt
  all_good k [] (x ∷ xs) e f = absurd e
  all_good k (i ∷ is) [] e f = absurd e
  all_good k (i ∷ is) (x ∷ xs) e f = (f i x e.0 e.1, all_good k is xs e.2 f)

  good_below : (b k : ℕ) → k < b → (step : Step) → slice_get steps k ≡ Some step → (x : Part) → slice_get d.parts k ≡ Some x → IsGood o net x
  good_below zero k l step e x g = absurd (omega arith)
  good_below (suc b) k l step e x g =
      let r = d.each k step e in
      let build = r.2 in
      let kl = slice_get_within steps k step e in
      let good = all_good k (named step) build.from build.earlier (λ i y il ig. let s = at_index steps i (omega arith) in good_below b i (omega arith) s.0 s.1 y ig) in
      let fresh : (n : ℕ) → is_among n (own_nodes step) ≡ true → nodes_of build.from n ≡ false = λ n a. false_from_ne_true (nodes_of build.from n) (λ t.
      let f = of_nodes build.from n t in
      let i = earlier_at d.parts k (named step) build.from build.earlier f.0 f.1 f.2 in
      let il = i.1 in
      let s = at_index steps i.0 (omega arith) in
      let j = stands (suc i.0) i.0 (omega arith) s.0 s.1 f.1 i.2 n f.3 in
      let jl = j.1 in
      let two = times_two own_nodes n steps j.0 k j.2 step (omega arith) j.3 e j.4 a in
      let one = d.node_once n (is_node o step n build.from r.0 build.joins a) in
      omega arith) in
      subst (IsGood o net) (some_same (slice_get d.parts k) r.0 x r.1 g) (
        step_balanced o d.parts k step build.from r.0 build.earlier build.apart (all_balanced o net build.from good) build.joins fresh build.nodes,
        step_good o net d.parts k step build.from r.0 build.earlier build.apart good build.joins fresh build.nodes,
      )

  -- the last step has the nodes of each step
  climb : (b j : ℕ) → length steps ≤ j + b → (x : Part) → slice_get d.parts j ≡ Some x → (m : ℕ) → IsIn m x.nodes → j < length steps → (z : Part) → slice_get d.parts (length steps - 1) ≡ Some z → IsIn m z.nodes
  climb zero j l x g m h jl z last = absurd (omega arith)
  climb (suc b) j l x g m h jl z last = elim (eqb_tells (suc j) (length steps)) [
    | inl t ↦
        let e : length steps - 1 ≡ j = let u = t.1 in omega arith in
        subst (λ z. IsIn m z.nodes) (some_same (slice_get d.parts (length steps - 1)) x z (subst (λ k. slice_get d.parts k ≡ Some x) (sym e) g) last) h
    | inr t ↦
        let u = t.1 in
        let once = d.named_once j (omega arith) in
        let s = times_some named j steps (omega arith) in
        let r = d.each s.0 s.1 s.2 in
        let build = r.2 in
        let early = earlier_of d.parts s.0 (named s.1) build.from build.earlier j s.3 in
        let at = early.1 x g in
        let el = early.0 in
        climb b s.0 (omega arith) r.0 r.1 m (build.nodes m ∙ or_right (is_among m (own_nodes s.1)) (nodes_of build.from m) (in_nodes_of build.from at.0 x m at.1 h)) (slice_get_within steps s.0 s.1 s.2) z last
  ]

  pub derivation_builds : IsDerivable o
  derivation_builds =
      let some = d.some in
      let s = at_index steps (length steps - 1) (omega arith) in
      let r = d.each (length steps - 1) s.0 s.1 in
      let good = good_below (length steps) (length steps - 1) (omega arith) s.0 s.1 r.0 r.1 in (
        r.0.nodes,
        (λ n. (
          (λ h.
              let t = stands (length steps) (length steps - 1) (omega arith) s.0 s.1 r.0 r.1 n h in
              let u = d.each t.0 t.2 t.3 in
              is_node o t.2 n u.2.from u.0 u.2.joins t.4),
          λ h.
              let once = d.node_once n h in
              let t = times_some own_nodes n steps (omega arith) in
              let u = d.each t.0 t.1 t.2 in
              climb (length steps) t.0 (omega arith) u.0 u.1 n (u.2.nodes n ∙ or_left (is_among n (own_nodes t.1)) (nodes_of u.2.from n) t.3) (slice_get_within steps t.0 t.1 t.2) r.0 r.1,
        )),
        good.1 (λ w l i m j h a b. d.ends r.0 r.1 w (Port l i) (Port m j) h),
      )
