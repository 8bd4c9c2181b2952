-- A joint turns one stack of nets into another.
use Rattle.std.proofs.Common.{◌≡◌, ◌⊎◌, ◌-◌, drop, Result, Ok, Err, OnOk, ◌≤◌, ◌+◌, ℕ, zero, suc, cond, Some, List, [], ◌∷◌, ◌++◌, length, slice_get, refl, sym, subst, ap, inl, inr, ◌∙◌, append_assoc, arith, take}
use Rattle.in_simple_deriving.specs.declared.plans.StackStep.{StackStep}
use Rattle.in_simple_deriving.specs.declared.plans.StackStep.TheVariants as joint
use Rattle.in_simple_deriving.specs.declared.plans.Task.{Task}
use Rattle.in_simple_deriving.specs.declared.plans.Task.TheVariants.{Derive, Make}
use Rattle.in_open_nets.specs.OpenNets.{OpenNet}
use Rattle.in_open_nets.specs.declared.derivations.Step.{Step}
use Rattle.in_open_nets.specs.declared.derivations.Step.TheVariants.{Graft, Cut, Mix}
use Rattle.in_open_nets.specs.Derivations.{Part, named, own_nodes, is_among, nodes_of, ShareNothing, HaveNoRepeats, AreEarlier, BuildsPart, times}
use Rattle.in_open_nets.specs.Members.{nodes_in}
use Rattle.in_simple_deriving.specs.Turns.{HeadedPart}
use Rattle.in_simple_deriving.specs.Planned.{TakesPart}
use Rattle.in_simple_deriving.specs.Stacks as yields
use Rattle.in_simple_deriving.specs.TakenOrder.{AreTaken, steps_from}
use Rattle.in_simple_deriving.specs.Stacks.{Yields, count_of, Shape, shape, no_wires, HasShape, HaveShapes, times_node, IsStack, step_of, over_two, IsLastLeft, AreLast, MakesStep, BuildsOver, Fits, RunsTasks, PutsShapes, loose_in, IsUnderWay}
use Rattle.in_simple_deriving.proofs.OneOrder.{split}
use Rattle.in_base.proofs.Places.{kept_at}
use Rattle.in_base.proofs.Places.{some_same}
use Rattle.in_open_nets.proofs.Public.{one_same, one_other, same_nat, at_most, length_app, get_past, get_cases, times_app, times_in_app}
use Rattle.in_open_nets.proofs.Public.{earlier_app, different_of, or_sum}

-- ---- lists

pub app_same : {X : Type 0} (xs ys us vs : List X) → xs ++ us ≡ ys ++ vs → length us ≡ length vs → (xs ≡ ys) × (us ≡ vs)
app_same [] [] us vs e l = (refl, e)
app_same [] (y ∷ ys) us vs e l = let a = ap length e in let b = length_app ys vs in absurd (omega arith)
app_same (x ∷ xs) [] us vs e l = let a = ap length e in let b = length_app xs us in absurd (omega arith)
app_same (x ∷ xs) (y ∷ ys) us vs e l =
    let r = app_same xs ys us vs (ap (drop 1) e) l in
    let h : x ≡ y = some_same (slice_get (x ∷ (xs ++ us)) 0) x y refl (ap (λ z. slice_get z 0) e) in
    (ap (λ z. z ∷ xs) h ∙ ap (λ z. y ∷ z) r.0, r.1)

pub none_more : {X : Type 0} (xs : List X) → xs ++ [] ≡ xs
none_more [] = refl
none_more (x ∷ xs) = ap (λ z. x ∷ z) (none_more xs)

-- ---- parts of a stack

earlier_push : (parts : List Part) (y : Part) (k l : ℕ) → k ≤ l → (is : List ℕ) (xs : List Part) → AreEarlier parts k is xs → AreEarlier (parts ++ y ∷ []) l is xs
earlier_push parts y k l h [] [] e = tt
earlier_push parts y k l h [] (x ∷ xs) e = e
earlier_push parts y k l h (i ∷ is) [] e = e
earlier_push parts y k l h (i ∷ is) (x ∷ xs) e = let a = e.0 in (omega arith, kept_at parts (y ∷ []) i x e.1, earlier_push parts y k l h is xs e.2)

times_node_app : (n : ℕ) (xs ys : List Part) → times_node n (xs ++ ys) ≡ times_node n xs + times_node n ys
times_node_app n [] ys = omega arith
times_node_app n (x ∷ xs) ys = let r = times_node_app n xs ys in omega arith

times_node_once : (n : ℕ) (xs : List Part) → ShareNothing xs → times_node n xs ≡ cond (nodes_of xs n) 1 0
times_node_once n [] s = refl
times_node_once n (x ∷ xs) s = let r = times_node_once n xs s.2 in let e = or_sum (x.nodes n) (nodes_of xs n) (s.0 n) in omega arith

module _ (o : OpenNet) where
  builds_push : (parts : List Part) (y : Part) (k : ℕ) (step : Step) (x : Part) → BuildsPart o parts k step x → BuildsPart o (parts ++ y ∷ []) k step x
  builds_push parts y k step x b = record {
    from = b.from;
    earlier = earlier_push parts y k k (omega arith) (named step) b.from b.earlier;
    different = b.different;
    apart = b.apart;
    nodes = b.nodes;
    links = b.links;
    joins = b.joins;
  }

  shapes_app : (xs ys : List Shape) (ts us : List Part) → HaveShapes o xs ts → HaveShapes o ys us → HaveShapes o (xs ++ ys) (ts ++ us)
  shapes_app [] ys [] us h k = k
  shapes_app [] ys (t ∷ ts) us h k = absurd h
  shapes_app (x ∷ xs) ys [] us h k = absurd h
  shapes_app (x ∷ xs) ys (t ∷ ts) us h k = (h.0, shapes_app xs ys ts us h.1 k)

  -- the roots of the last nets are apart from those below
  record Parted (parts : List Part) (k : ℕ) (roots : List ℕ) (tops : List Part) (base xs : List Shape) : Type 0 where
    below : List ℕ
    names : List ℕ
    ts : List Part
    us : List Part
    roots_is : roots ≡ below ++ names
    tops_is : tops ≡ ts ++ us
    many : length names ≡ length xs
    lower : AreEarlier parts k below ts
    upper : AreEarlier parts k names us
    lower_shapes : HaveShapes o base ts
    upper_shapes : HaveShapes o xs us

  same_many : (parts : List Part) (k : ℕ) (is : List ℕ) (ys : List Part) (xs : List Shape) → AreEarlier parts k is ys → HaveShapes o xs ys → length is ≡ length xs
  same_many parts k [] [] [] e h = refl
  same_many parts k [] [] (x ∷ xs) e h = absurd h
  same_many parts k [] (y ∷ ys) xs e h = absurd e
  same_many parts k (i ∷ is) [] xs e h = absurd e
  same_many parts k (i ∷ is) (y ∷ ys) [] e h = absurd h
  same_many parts k (i ∷ is) (y ∷ ys) (x ∷ xs) e h = ap suc (same_many parts k is ys xs e.2 h.1)

  part_at : (parts : List Part) (k : ℕ) (roots : List ℕ) (tops : List Part) (base xs : List Shape) → AreEarlier parts k roots tops → HaveShapes o (base ++ xs) tops → Parted parts k roots tops base xs
  part_at parts k roots tops [] xs e h = record {
    below = [];
    names = roots;
    ts = [];
    us = tops;
    roots_is = refl;
    tops_is = refl;
    many = same_many parts k roots tops xs e h;
    lower = tt;
    upper = e;
    lower_shapes = tt;
    upper_shapes = h;
  }
  part_at parts k [] [] (b ∷ base) xs e h = absurd h
  part_at parts k [] (y ∷ ys) (b ∷ base) xs e h = absurd e
  part_at parts k (i ∷ is) [] (b ∷ base) xs e h = absurd e
  part_at parts k (i ∷ is) (y ∷ ys) (b ∷ base) xs e h = with_rest (part_at parts k is ys base xs e.2 h.1)
    where
      with_rest : Parted parts k is ys base xs → Parted parts k (i ∷ is) (y ∷ ys) (b ∷ base) xs
      with_rest r = record {
        below = i ∷ r.below;
        names = r.names;
        ts = y ∷ r.ts;
        us = r.us;
        roots_is = ap (λ z. i ∷ z) r.roots_is;
        tops_is = ap (λ z. y ∷ z) r.tops_is;
        many = r.many;
        lower = (e.0, e.1, r.lower);
        upper = r.upper;
        lower_shapes = (h.0, r.lower_shapes);
        upper_shapes = r.upper_shapes;
      }

  -- ---- one more step

  pub stack_none : IsStack o [] [] []
  stack_none = record {
    parts = [];
    tops = [];
    same = refl;
    each = λ k step h. cc;
    roots_are = tt;
    once = λ k l. absurd (omega arith);
    later = λ k l. refl;
    nodes = λ n. refl;
    shaped = tt;
  }

  stack_step : (s : List Step) (r : List ℕ) (base xs : List Shape) (k : IsStack o s r (base ++ xs)) (p : Parted k.parts (length s) r k.tops base xs) (step : Step) (x : Shape) (y : Part) → HasShape o x y → BuildsOver o step p.names p.us y → IsStack o (s ++ step ∷ []) (p.below ++ length s ∷ []) (base ++ x ∷ [])
  stack_step s r base xs k p step x y has b = record {
    parts = k.parts ++ y ∷ [];
    tops = p.ts ++ y ∷ [];
    same = length_app k.parts (y ∷ []) ∙ ap (λ z. z + 1) k.same ∙ sym (length_app s (step ∷ []));
    each = λ i step' h. elim (get_cases s (step ∷ []) i step' h) [
      | inl e ↦ let q = k.each i step' e in (q.0, kept_at k.parts (y ∷ []) i q.0 q.1, builds_push k.parts y i step' q.0 q.2)
      | inr e ↦ last i step' e.0 e.1 e.2
    ];
    roots_are =
        let l = length_app s (step ∷ []) in
        let q = k.same in
        earlier_app (k.parts ++ y ∷ []) (length (s ++ step ∷ [])) p.below p.ts (length s ∷ []) (y ∷ [])
        (earlier_push k.parts y (length s) (length (s ++ step ∷ [])) (omega arith) p.below p.ts p.lower)
        (omega arith, get_past k.parts (y ∷ []) 0 (length s) y (omega arith) refl, tt);
    once = λ i l.
        let e = length_app s (step ∷ []) in
        let c = times_in_app named i s (step ∷ []) in
        let d = times_app i p.below (length s ∷ []) in
        let f = ap (times i) p.roots_is ∙ times_app i p.below p.names in
        let g = ap (times i) b.names_are in
        elim (same_nat i (length s)) [
          | inl u ↦ let a = k.later i (omega arith) in let v = one_same i (length s) u in omega arith
          | inr u ↦ let a = k.once i (omega arith) in let v = one_other i (length s) u in omega arith
        ];
    later = λ i l.
        let e = length_app s (step ∷ []) in
        let c = times_in_app named i s (step ∷ []) in
        let d = times_app i p.below (length s ∷ []) in
        let f = ap (times i) p.roots_is ∙ times_app i p.below p.names in
        let g = ap (times i) b.names_are in
        let a = k.later i (omega arith) in
        let v = one_other i (length s) (λ z. omega arith) in
        omega arith;
    nodes = λ n.
        let c = times_in_app own_nodes n s (step ∷ []) in
        let a = k.nodes n in
        let t = ap (times_node n) p.tops_is ∙ times_node_app n p.ts p.us in
        let d = times_node_app n p.ts (y ∷ []) in
        let u = times_node_once n p.us b.apart in
        let f = b.own_once n in
        let g : cond (y.nodes n) 1 0 ≡ cond (is_among n (own_nodes step)) 1 0 + cond (nodes_of p.us n) 1 0 = ap (λ z. cond z 1 0) (b.nodes n) ∙ or_sum (is_among n (own_nodes step)) (nodes_of p.us n) (b.fresh n) in
        omega arith;
    shaped = shapes_app base (x ∷ []) p.ts (y ∷ []) p.lower_shapes (has, tt);
  }
    where
      few : (i : ℕ) → times i p.names ≤ 1
      few i =
          let f = ap (times i) p.roots_is ∙ times_app i p.below p.names in
          elim (at_most (length s) i) [ inl u ↦ let a = k.later i u in omega arith | inr u ↦ let a = k.once i u in omega arith ]

      last : (i : ℕ) (step' : Step) (l : ℕ) → i ≡ length s + l → slice_get (step ∷ []) l ≡ Some step' → (z : Part) × (slice_get (k.parts ++ y ∷ []) i ≡ Some z) × BuildsPart o (k.parts ++ y ∷ []) i step' z
      last i step' zero e h =
          let q = k.same in
          let same : step ≡ step' = some_same (Some step) step step' refl h in
          let z : length s ≡ i = omega arith in (
            y,
            get_past k.parts (y ∷ []) 0 i y (omega arith) refl,
            subst (λ u. BuildsPart o (k.parts ++ y ∷ []) i u y) same (subst (λ u. BuildsPart o (k.parts ++ y ∷ []) u step y) z (record {
              from = p.us;
              earlier = subst (λ u. AreEarlier (k.parts ++ y ∷ []) (length s) u p.us) (sym b.names_are) (earlier_push k.parts y (length s) (length s) (omega arith) p.names p.us p.upper);
              different = subst HaveNoRepeats (sym b.names_are) (different_of p.names few);
              apart = b.apart;
              nodes = b.nodes;
              links = b.links;
              joins = b.joins;
            })),
          )
      last i step' (suc l) e h = cc

  pub stack_make : (j : StackStep) (s : List Step) (r : List ℕ) (s' : List Step) (r' : List ℕ) (base xs : List Shape) (x : Shape) → IsStack o s r (base ++ xs) → Fits o j xs x → MakesStep j s r s' r' → IsStack o s' r' (base ++ x ∷ [])
  stack_make j s r s' r' base xs x k fits makes = go (part_at k.parts (length s) r k.tops base xs k.roots_are k.shaped)
    where
      go : Parted k.parts (length s) r k.tops base xs → IsStack o s' r' (base ++ x ∷ [])
      go p =
          let l = p.many ∙ fits.many in
          let m = makes p.below p.names p.roots_is l in
          let b = fits.builds p.names p.us l p.upper_shapes in
          subst (λ z. IsStack o z r' (base ++ x ∷ [])) (sym m.0) (subst (λ z. IsStack o (s ++ step_of j p.names ∷ []) z (base ++ x ∷ [])) (sym m.1) (stack_step s r base xs k p (step_of j p.names) x b.0 b.1 b.2))

  -- ---- tasks

  pub runs_app : (ts us : List Task) (a b c : List Shape) → RunsTasks o ts a b → RunsTasks o us b c → RunsTasks o (ts ++ us) a c
  runs_app [] us a b c r q = subst (λ z. RunsTasks o us z c) (sym r) q
  runs_app (Derive d ∷ ts) us a b c r q = runs_app ts us (a ++ shape (nodes_in d.nodes) no_wires ∷ []) b c r q
  runs_app (Make j ∷ ts) us a b c r q = (r.0, r.1, r.2, r.3, r.4, runs_app ts us (r.0 ++ r.2 ∷ []) b c r.5 q)

  pub runs_make : (ts : List Task) (j : StackStep) (a below xs : List Shape) (x : Shape) → RunsTasks o ts a (below ++ xs) → Fits o j xs x → RunsTasks o (ts ++ Make j ∷ []) a (below ++ x ∷ [])
  runs_make ts j a below xs x r f = runs_app ts (Make j ∷ []) a (below ++ xs) (below ++ x ∷ []) r (below, xs, x, refl, f, refl)

  pub runs_derive : (ts : List Task) (c : HeadedPart) (a b : List Shape) → RunsTasks o ts a b → RunsTasks o (ts ++ Derive c ∷ []) a (b ++ shape (nodes_in c.nodes) no_wires ∷ [])
  runs_derive ts c a b r = runs_app ts (Derive c ∷ []) a b (b ++ shape (nodes_in c.nodes) no_wires ∷ []) r refl

-- ---- the nets that a step takes

pub drop_past : {X : Type 0} (xs ys : List X) (k : ℕ) → k ≡ length xs → drop k (xs ++ ys) ≡ ys
drop_past [] ys k e = ap (λ z. drop z ys) e
drop_past (x ∷ xs) ys zero e = absurd (omega arith)
drop_past (x ∷ xs) ys (suc k) e = drop_past xs ys k (omega arith)

abbrev IsMade : (List ℕ → Step) → List Step → List ℕ → List Step → List ℕ → List ℕ → List ℕ → Type 0
IsMade f s r s' r' below names = (s' ≡ s ++ f names ∷ []) × (r' ≡ below ++ length s ∷ [])

take_two : (f : ℕ → ℕ → Step) (s : List Step) (r r1 r2 : List ℕ) (s' : List Step) (r' : List ℕ) (a b : ℕ) → IsLastLeft b r r1 → IsLastLeft a r1 r2 → s' ≡ s ++ f a b ∷ [] → r' ≡ r2 ++ length s ∷ [] → (below names : List ℕ) → r ≡ below ++ names → length names ≡ 2 → IsMade (over_two f) s r s' r' below names
take_two f s r r1 r2 s' r' a b p q h k below [] e l = absurd (omega arith)
take_two f s r r1 r2 s' r' a b p q h k below (x ∷ []) e l = absurd (omega arith)
take_two f s r r1 r2 s' r' a b p q h k below (x ∷ y ∷ z ∷ zs) e l = absurd (omega arith)
take_two f s r r1 r2 s' r' a b (inr p) q h k below (x ∷ y ∷ []) e l = let u = ap length (sym p.0 ∙ e) in let v = length_app below (x ∷ y ∷ []) in absurd (omega arith)
take_two f s r r1 r2 s' r' a b (inl p) (inr q) h k below (x ∷ y ∷ []) e l =
    let u = ap length (sym p ∙ e) in
    let v = length_app below (x ∷ y ∷ []) in
    let w = length_app r1 (b ∷ []) in
    let t = ap length q.0 in
    absurd (omega arith)
take_two f s r r1 r2 s' r' a b (inl p) (inl q) h k below (x ∷ y ∷ []) e l =
    let one = app_same r1 (below ++ x ∷ []) (b ∷ []) (y ∷ []) (sym p ∙ e ∙ sym (append_assoc below (x ∷ []) (y ∷ []))) refl in
    let two = app_same r2 below (a ∷ []) (x ∷ []) (sym q ∙ one.0) refl in
    let eb : b ≡ y = some_same (slice_get (b ∷ []) 0) b y refl (ap (λ z. slice_get z 0) one.1) in
    let ea : a ≡ x = some_same (slice_get (a ∷ []) 0) a x refl (ap (λ z. slice_get z 0) two.1) in
    (h ∙ ap (λ z. s ++ f z b ∷ []) ea ∙ ap (λ z. s ++ f x z ∷ []) eb, k ∙ ap (λ z. z ++ length s ∷ []) two.0)

take_many : (n count : ℕ) (s : List Step) (r r2 last : List ℕ) (s' : List Step) (r' : List ℕ) → last ≡ drop (length r - count) r → AreLast count r r2 → s' ≡ s ++ Graft n last ∷ [] → r' ≡ r2 ++ length s ∷ [] → (below names : List ℕ) → r ≡ below ++ names → length names ≡ count → IsMade (λ z. Graft n z) s r s' r' below names
take_many n count s r r2 last s' r' d g h k below names e l =
    (h ∙ ap (λ z. s ++ Graft n z ∷ []) same, k ∙ ap (λ z. z ++ length s ∷ []) (front g.2))
  where
    sizes : length r ≡ length below + length names
    sizes = ap length e ∙ length_app below names

    same : last ≡ names
    same = let u = sizes in d ∙ ap (λ z. drop (length r - count) z) e ∙ drop_past below names (length r - count) (omega arith)

    front : (length g.0 ≡ count) ⊎ ((r2 ≡ []) × (length g.0 ≤ count)) → r2 ≡ below
    front (inl m) = (app_same r2 below g.0 names (sym g.1 ∙ e) (m ∙ sym l)).0
    front (inr m) =
        let u = sizes in
        let v = ap length g.1 in
        let w = length_app r2 g.0 in
        let x = ap length m.0 in
        m.0 ∙ sym (empty below (omega arith))
      where
        empty : (xs : List ℕ) → length xs ≡ 0 → xs ≡ []
        empty [] z = refl
        empty (y ∷ ys) z = absurd (omega arith)

pub makes_graft : (j : StackStep) (n count : ℕ) (s : List Step) (r r2 last : List ℕ) (s' : List Step) (r' : List ℕ) → j ≡ joint.Graft n count → last ≡ drop (length r - count) r → AreLast count r r2 → s' ≡ s ++ Graft n last ∷ [] → r' ≡ r2 ++ length s ∷ [] → MakesStep j s r s' r'
makes_graft j n count s r r2 last s' r' e d g h k = subst (λ z. MakesStep z s r s' r') (sym e) (λ below names. take_many n count s r r2 last s' r' d g h k below names)

pub makes_cut : (j : StackStep) (w : ℕ) (s : List Step) (r r1 r2 : List ℕ) (s' : List Step) (r' : List ℕ) (a b : ℕ) → j ≡ joint.Cut w → IsLastLeft b r r1 → IsLastLeft a r1 r2 → s' ≡ s ++ Cut w a b ∷ [] → r' ≡ r2 ++ length s ∷ [] → MakesStep j s r s' r'
makes_cut j w s r r1 r2 s' r' a b e p q h k = subst (λ z. MakesStep z s r s' r') (sym e) (λ below names. take_two (Cut w) s r r1 r2 s' r' a b p q h k below names)

pub makes_mix : (j : StackStep) (s : List Step) (r r1 r2 : List ℕ) (s' : List Step) (r' : List ℕ) (a b : ℕ) → j ≡ joint.Mix → IsLastLeft b r r1 → IsLastLeft a r1 r2 → s' ≡ s ++ Mix a b ∷ [] → r' ≡ r2 ++ length s ∷ [] → MakesStep j s r s' r'
makes_mix j s r r1 r2 s' r' a b e p q h k = subst (λ z. MakesStep z s r s' r') (sym e) (λ below names. take_two Mix s r r1 r2 s' r' a b p q h k below names)

pub on_both : {A B : Type 0} (r : Result A B) (P Q R : Type 0) → (P → Q → R) → OnOk r P → OnOk r Q → OnOk r R
on_both (Ok a) P Q R f p q = f p q
on_both (Err e) P Q R f p q = tt

-- the last steps that a joint takes, and those that it leaves
taken_at : (r below names : List ℕ) (count : ℕ) → r ≡ below ++ names → length names ≡ count → (take (length r - count) r ≡ below) × (drop (length r - count) r ≡ names)
taken_at r below names count e many =
    let size = ap length e ∙ length_app below names in
    let at : length r - count ≡ length below = omega (arith, size, many) in
    (ap (λ k. take k r) at ∙ ap (take (length below)) e ∙ take_front below names, ap (λ k. drop k r) at ∙ ap (drop (length below)) e ∙ drop_past below names (length below) refl)
  where
    take_front : (xs ys : List ℕ) → take (length xs) (xs ++ ys) ≡ xs
    take_front [] ys = refl
    take_front (x ∷ xs) ys = ap (λ z. x ∷ z) (take_front xs ys)

-- ---- under way

pub under_make : (o : OpenNet) (j : StackStep) (ts : List Task) (s : List Step) (r : List ℕ) (s' : List Step) (r' : List ℕ) → MakesStep j s r s' r' → IsUnderWay o (Make j ∷ ts) s r → IsUnderWay o ts s' r'
under_make o j ts s r s' r' m u = record {
  whole = u.whole;
  all = u.all;
  shapes = u.runs.0 ++ u.runs.2 ∷ [];
  stack = stack_make o j s r s' r' u.runs.0 u.runs.1 u.runs.2 (subst (λ z. IsStack o s r z) u.runs.3 u.stack) u.runs.4 m;
  runs = u.runs.5;
  order = λ js y.
      let p = part_at o u.stack.parts (length s) r u.stack.tops u.runs.0 u.runs.1 u.stack.roots_are (subst (λ z. HaveShapes o z u.stack.tops) u.runs.3 u.stack.shaped) in
      let many = p.many ∙ u.runs.4.many in
      let made = m p.below p.names p.roots_is many in
      let at = taken_at r p.below p.names (count_of j) p.roots_is many in
      subst (λ z. AreTaken o (steps_from js s' z)) (ap (λ z. z ++ length s ∷ []) at.0 ∙ sym made.1)
      (subst (λ z. AreTaken o (steps_from js z (take (length r - count_of j) r ++ length s ∷ []))) (ap (λ z. s ++ step_of j z ∷ []) at.1 ∙ sym made.0) (u.order (j ∷ js) (yields.made j ts js y)));
}

pub under_derive : (o : OpenNet) (c : HeadedPart) (ps ts : List Task) (s : List Step) (r : List ℕ) → PutsShapes o ps (shape (nodes_in c.nodes) no_wires ∷ []) → TakesPart o (nodes_in c.nodes) ps → IsUnderWay o (Derive c ∷ ts) s r → IsUnderWay o (ps ++ ts) s r
under_derive o c ps ts s r p takes u = record {
  whole = u.whole;
  all = u.all;
  shapes = u.shapes;
  stack = u.stack;
  runs = runs_app o ps ts u.shapes (u.shapes ++ shape (nodes_in c.nodes) no_wires ∷ []) (shape u.whole (loose_in o) ∷ []) (p u.shapes) u.runs;
  order = λ js y.
      let x = split o ps ts js y in
      u.order js (subst (Yields o (Derive c ∷ ts)) x.whole (yields.derived c ts x.one x.other (takes x.one x.first) x.second));
}
