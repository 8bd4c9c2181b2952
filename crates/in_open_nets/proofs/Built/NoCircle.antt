-- A derivable open net has no crossing circle.
use Rattle.std.proofs.Common.{◌≤◌, ◌≡◌, ◌≢◌, ◌⊎◌, ◌<◌, ℕ, Bool, true, nat_eq, List, [], ◌∷◌, ◌++◌, refl, sym, subst, inl, inr, ◌∙◌, eq-eqb}
use mathlib.Core.HLevel.{Discrete}
use Rattle.std.specs.List.{AllByRecursion}
use Rattle.in_base.specs.Graphs.{Graph, Passage, entered, left, LeadsThrough, CrossingCircle}
use Rattle.in_open_nets.specs.Constructions.{IsIn, AreParts, numbered, IsGraft, Built, empty, given, mix, cut, graft}
use Rattle.in_base.proofs.Circuits.{Walk, AreSeparate, Circuit, Found, find, rotate, IsEntered, IsLeft, crossings_separate, circuit_of}
use Rattle.in_open_nets.proofs.PartsOf.Sums.{not_both, swap_parts}
use Rattle.in_base.proofs.Each.{all_left, all_append, all_right, all_map}

numbered_in : {V : Type 0} (s : V → Bool) (part : V → ℕ) (c : ℕ) (n : V) → IsIn n s → part n ≡ c → IsIn n (numbered s part c)
numbered_in s part c n h e = let t : nat_eq (part n) c ≡ true = eq-eqb (part n) c e in rw h t

all_both : {X : Type 0} (P Q : X → Type 0) (xs : List X) → AllByRecursion P xs → AllByRecursion Q xs → AllByRecursion (λ x. P x × Q x) xs
all_both P Q [] h k = tt
all_both P Q (x ∷ xs) h k = ((h.0, k.0), all_both P Q xs h.1 k.1)

module _ (g : Graph) (same : Discrete g.Node) (E L : g.Node × ℕ → Type 0) (separate : AreSeparate g E L) where
  -- the nodes of the passages are in s
  abbrev AreIn : (g.Node → Bool) → List (Passage g.Node) → Type 0
  AreIn s ps = AllByRecursion (λ q. IsIn q.node s) ps

  -- a walk that begins in X stays there, if no wire leads from X to another node of s
  stay : (S X : g.Node → Type 0) → ((u v : g.Node × ℕ) → g.Wire u v → X u.0 → S v.0 → X v.0) → (from to : g.Node × ℕ) (ps : List (Passage g.Node)) → Walk g E L from ps to → X from.0 → AllByRecursion (λ q. S q.node) ps → AllByRecursion (λ q. X q.node) ps
  stay S X closed from to [] w x h = tt
  stay S X closed from to (p ∷ ps) w x h =
      let here = closed from (entered p) w.0 x h.0 in
      (here, stay S X closed (left p) to ps w.3 here h.1)

  -- a port that is both entered and left
  both : (v : g.Node × ℕ) → E v → L v → ⊥
  both v e l = separate v.0 v.1 v.1 e l refl

  module _ (s a b : g.Node → Bool) (parts : AreParts s a b) (p q : g.Node × ℕ) (joined : g.Wire p q) (only : (u v : g.Node × ℕ) → g.Wire u v → IsIn u.0 a → IsIn v.0 b → (u ≡ p) × (v ≡ q)) (only_back : (u v : g.Node × ℕ) → g.Wire u v → IsIn u.0 b → IsIn v.0 a → (u ≡ q) × (v ≡ p)) where
    -- a walk from b to a leaves b by q
    come_back : (from to : g.Node × ℕ) (ps : List (Passage g.Node)) → Walk g E L from ps to → IsIn from.0 b → L from → AreIn s ps → IsIn to.0 a → L q
    come_back from to [] w hb l h ha = subst L (only_back from to w hb ha).0 l
    come_back from to (x ∷ xs) w hb l h ha =
        elim ((parts x.node).0.0 h.0) [
          | inl xa ↦ subst L (only_back from (entered x) w.0 hb xa).0 l
          | inr xb ↦ come_back (left x) to xs w.3 xb w.2 h.1 ha
        ]

    -- so a closed walk that begins in a stays there
    keep : (from to : g.Node × ℕ) (ps : List (Passage g.Node)) → Walk g E L from ps to → IsIn from.0 a → AreIn s ps → IsIn to.0 a → AreIn a ps
    keep from to [] w hf h ht = tt
    keep from to (x ∷ xs) w hf h ht =
        elim ((parts x.node).0.0 h.0) [
          | inl xa ↦ (xa, keep (left x) to xs w.3 xa h.1 ht)
          | inr xb ↦ absurd (both q (subst E (only from (entered x) w.0 hf xb).1 w.1) (come_back (left x) to xs w.3 xb w.2 h.1 ht))
        ]

  module _ (n : g.Node) (s : g.Node → Bool) (part : g.Node → ℕ) (many : ℕ) (r : IsGraft g n many s part) (wire_back : (u v : g.Node × ℕ) → g.Wire u v → g.Wire v u) where
    -- from the net of one class a walk comes back to n by that class
    within : (m : g.Node) (k j : ℕ) (i : ℕ) (ps : List (Passage g.Node)) → Walk g E L (m, k) ps (n, i) → IsIn m s → m ≢ n → part m ≡ g.class n j → AreIn s ps → L (n, j) → E (n, i) → ⊥
    within m k j i [] w hm other e h l f = separate n i j f l (sym (r.to i k m hm other (wire_back (m, k) (n, i) w)) ∙ e)
    within m k j i (x ∷ xs) w hm other e h l f =
        go (same x.node n) (λ there. within x.node x.leave j i xs w.3 h.0 there (sym (r.among m x.node k x.enter hm h.0 other there w.0) ∙ e) h.1 l f)
      where
        go : Dec (x.node ≡ n) → ((x.node ≢ n) → ⊥) → ⊥
        go (yes here) on =
            let w' = subst (λ v. g.Wire (m, k) (v, x.enter)) here w.0 in
            let f' = subst (λ v. E (v, x.enter)) here w.1 in
            separate n x.enter j f' l (sym (r.to x.enter k m hm other (wire_back (m, k) (n, x.enter) w')) ∙ e)
        go (no there) on = on there

    -- no closed walk goes through n
    through : (i j : ℕ) (ps : List (Passage g.Node)) → Walk g E L (n, j) ps (n, i) → AreIn s ps → L (n, j) → E (n, i) → ⊥
    through i j [] w h l f = separate n i j f l (sym (r.own j i w))
    through i j (x ∷ xs) w h l f = go (same x.node n)
      where
        go : Dec (x.node ≡ n) → ⊥
        go (yes here) =
            separate n x.enter j (subst (λ v. E (v, x.enter)) here w.1) l (sym (r.own j x.enter (subst (λ v. g.Wire (n, j) (v, x.enter)) here w.0)))
        go (no there) = within x.node x.leave j i xs w.3 h.0 there (r.to j x.enter x.node h.0 there w.0) h.1 l f

  -- a walk in s that avoids n stays within the net of one class
  avoid : (n : g.Node) (s : g.Node → Bool) (part : g.Node → ℕ) (many : ℕ) → IsGraft g n many s part → (p : Passage g.Node) (ps : List (Passage g.Node)) (to : g.Node × ℕ) → Walk g E L (left p) ps to → AreIn s (p ∷ ps) → AllByRecursion (λ q. n ≢ q.node) (p ∷ ps) → AreIn (numbered s part (part p.node)) (p ∷ ps)
  avoid n s part many r p ps to w h other =
      let S : g.Node → Type 0 = λ m. IsIn m s × (n ≢ m) in
      let X : g.Node → Type 0 = λ m. IsIn m s × (n ≢ m) × (part m ≡ part p.node) in
      let xs : AllByRecursion (λ q. X q.node) ps = stay S X
      (λ u v wire x k. (k.0, k.1, sym (r.among u.0 v.0 u.1 v.1 x.0 k.0 (λ e. x.1 (sym e)) (λ e. k.1 (sym e)) wire) ∙ x.2))
      (left p) to ps w (h.0, other.0, refl) (all_both (λ q. IsIn q.node s) (λ q. n ≢ q.node) ps h.1 other.1) in (
        numbered_in s part (part p.node) p.node h.0 refl,
        all_map (λ q. X q.node) (λ q. IsIn q.node (numbered s part (part p.node))) (λ q x. numbered_in s part (part p.node) q.node x.0 x.2) ps xs,
      )

  -- no closed walk begins at n
  not_from : (n : g.Node) (s : g.Node → Bool) (part : g.Node → ℕ) (many : ℕ) → IsGraft g n many s part → ((u v : g.Node × ℕ) → g.Wire u v → g.Wire v u) → (c : Circuit g E L) → AreIn s (c.first ∷ c.rest) → n ≡ c.first.node → ⊥
  not_from n s part many r wire_back c h e =
      through c.first.node s part many (subst (λ v. IsGraft g v many s part) e r) wire_back c.first.enter c.first.leave c.rest c.closed h.1 c.leaves c.enters

  -- a closed walk in a, or in b, if at most one wire joins the two
  in_parts : (s a b : g.Node → Bool) → AreParts s a b → ((u v : g.Node × ℕ) → g.Wire u v → g.Wire v u) → (p q : g.Node × ℕ) → g.Wire p q → ((u v : g.Node × ℕ) → g.Wire u v → IsIn u.0 a → IsIn v.0 b → (u ≡ p) × (v ≡ q)) → (c : Circuit g E L) → AreIn s (c.first ∷ c.rest) → AreIn a (c.first ∷ c.rest) ⊎ AreIn b (c.first ∷ c.rest)
  in_parts s a b parts wire_back p q joined only c h =
      let only_back : (u v : g.Node × ℕ) → g.Wire u v → IsIn u.0 b → IsIn v.0 a → (u ≡ q) × (v ≡ p) =
      λ u v w ub va. ((only v u (wire_back u v w) va ub).1, (only v u (wire_back u v w) va ub).0) in
      elim ((parts c.first.node).0.0 h.0) [
        | inl x ↦ inl (x, keep s a b parts p q joined only only_back (left c.first) (entered c.first) c.rest c.closed x h.1 x)
        | inr x ↦ inr (x, keep s b a (swap_parts s a b parts) q p (wire_back p q joined) only_back only (left c.first) (entered c.first) c.rest c.closed x h.1 x)
      ]

  pub no_circuit : {IsAgent : g.Node → Type 0} → {classes : g.Node → ℕ} → ((u v : g.Node × ℕ) → g.Wire u v → g.Wire v u) → {s : g.Node → Bool} → Built g IsAgent classes s → (c : Circuit g E L) → AreIn s (c.first ∷ c.rest) → ⊥
  no_circuit wire_back (empty s none) c h = not_both (s c.first.node) h.0 (none c.first.node)
  no_circuit wire_back (given n s _ all self) c h = one c.rest c.closed h.1
    where
      first_is : c.first.node ≡ n
      first_is = (all c.first.node).0 h.0

      one : (ps : List (Passage g.Node)) → Walk g E L (left c.first) ps (entered c.first) → AreIn s ps → ⊥
      one [] w k = self c.first.leave c.first.enter (subst (λ v. g.Wire (v, c.first.leave) (v, c.first.enter)) first_is w)
      one (x ∷ xs) w k =
          let w' = subst (λ v. g.Wire (v, c.first.leave) (entered x)) first_is w.0 in
          self c.first.leave x.enter (subst (λ v. g.Wire (n, c.first.leave) (v, x.enter)) ((all x.node).0 k.0) w')
  no_circuit wire_back (mix s a b parts apart x y) c h =
      elim ((parts c.first.node).0.0 h.0) [
        | inl k ↦ no_circuit wire_back x c (k, stay (λ n. IsIn n s) (λ n. IsIn n a) (λ u v w ua vs. elim ((parts v.0).0.0 vs) [ inl va ↦ va | inr vb ↦ absurd (apart u v w ua vb) ]) (left c.first) (entered c.first) c.rest c.closed k h.1)
        | inr k ↦ no_circuit wire_back y c (k, stay (λ n. IsIn n s) (λ n. IsIn n b) (λ u v w ub vs. elim ((parts v.0).0.0 vs) [ inl va ↦ absurd (apart v u (wire_back u v w) va ub) | inr vb ↦ vb ]) (left c.first) (entered c.first) c.rest c.closed k h.1)
      ]
  no_circuit wire_back (cut s a b p q parts joined pa qb only x y) c h =
      elim (in_parts s a b parts wire_back p q joined only c h) [
        | inl k ↦ no_circuit wire_back x c k
        | inr k ↦ no_circuit wire_back y c k
      ]
  no_circuit {classes = classes} wire_back (graft n s part _ r nets) c h =
      go (same n c.first.node) (find same n c.rest) (λ z le k. no_circuit wire_back (nets (part c.first.node) z le) c k)
    where
      go : Dec (n ≡ c.first.node) → Found n c.rest ⊎ AllByRecursion (λ q. n ≢ q.node) c.rest → (0 < part c.first.node → part c.first.node ≤ classes n → AreIn (numbered s part (part c.first.node)) (c.first ∷ c.rest) → ⊥) → ⊥
      go (yes e) f net = not_from n s part (classes n) r wire_back c h e
      go (no e) (inl f) net =
          let P : Passage g.Node → Type 0 = λ q. IsIn q.node s in
          let c' = rotate g E L c.first f.before f.here f.after c.enters c.leaves (subst (λ ps. Walk g E L (left c.first) ps (entered c.first)) f.whole c.closed) in
          let k : AllByRecursion P (f.before ++ f.here ∷ f.after) = subst (AllByRecursion P) f.whole h.1 in
          let after = all_right P f.before (f.here ∷ f.after) k in
          not_from n s part (classes n) r wire_back c' (after.0, all_append P f.after (c.first ∷ f.before) after.1 (h.0, all_left P f.before (f.here ∷ f.after) k)) f.same
      go (no e) (inr f) net =
          net (r.others c.first.node h.0 (λ i. e (sym i))) (r.most c.first.node h.0 (λ i. e (sym i))) (avoid n s part (classes n) r c.first c.rest (entered c.first) c.closed h (e, f))

-- if each wire ends in s, the nodes of a walk and its end are in s
leads_in : (g : Graph) (s : g.Node → Bool) → ((u v : g.Node × ℕ) → g.Wire u v → IsIn v.0 s) → (from to : g.Node × ℕ) (ps : List (Passage g.Node)) → LeadsThrough g from ps to → AllByRecursion (λ q. IsIn q.node s) ps × IsIn to.0 s
leads_in g s all from to [] w = (tt, all from to w)
leads_in g s all from to (p ∷ ps) w =
    let r = leads_in g s all (left p) to ps w.1 in
    ((all from (entered p) w.0, r.0), r.1)

pub no_circle : (g : Graph) (same : Discrete g.Node) (IsAgent : g.Node → Type 0) (classes : g.Node → ℕ) (s : g.Node → Bool) → ((u v : g.Node × ℕ) → g.Wire u v → g.Wire v u) → ((u v : g.Node × ℕ) → g.Wire u v → IsIn v.0 s) → Built g IsAgent classes s → CrossingCircle g → ⊥
no_circle g same IsAgent classes s back all built r =
    let ps = r.first ∷ r.rest in
    let h = leads_in g s all (left r.first) (entered r.first) r.rest r.closed in
    no_circuit g same (IsEntered ps) (IsLeft ps) (crossings_separate g ps r.crossing r.apart) back built (circuit_of g r) (h.1, h.0)
