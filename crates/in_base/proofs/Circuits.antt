-- Closed walks in which no class is both entered and left, and the crossing circles in them.
use Rattle.std.proofs.Common.{◌≡◌, ◌≢◌, ◌⊎◌, ℕ, List, [], ◌∷◌, ◌++◌, refl, sym, subst, ap, inl, inr, ◌∙◌}
use mathlib.Core.HLevel.{Discrete}
use Rattle.std.specs.List.{AllByRecursion}
use Rattle.in_base.specs.Graphs.{Graph, Passage, entered, left, LeadsThrough, IsCrossing, AreApart, CrossingCircle}
use Rattle.in_base.specs.Lists.{AnyByRecursion}
use Rattle.in_base.proofs.Each.{all_left, all_map}

-- wires through these nodes in turn, each entered by a port of E and left by a port of L
abbrev pub Walk : (g : Graph) (E L : g.Node × ℕ → Type 0) → g.Node × ℕ → List (Passage g.Node) → g.Node × ℕ → Type 0
Walk g E L from [] to = g.Wire from to
Walk g E L from (p ∷ ps) to = g.Wire from (entered p) × E (entered p) × L (left p) × Walk g E L (left p) ps to

-- at each node the ports of E and those of L have different classes
abbrev pub AreSeparate : (g : Graph) (E L : g.Node × ℕ → Type 0) → Type 0
AreSeparate g E L = (n : g.Node) (i j : ℕ) → E (n, i) → L (n, j) → g.class n i ≢ g.class n j

-- a closed walk of one or more nodes, not all different
pub record Circuit (g : Graph) (E L : g.Node × ℕ → Type 0) : Type 0 where
  pub first : Passage g.Node
  pub rest : List (Passage g.Node)
  pub enters : E (entered first)
  pub leaves : L (left first)
  pub closed : Walk g E L (left first) rest (entered first)

-- the node's first passage in a list, and the passages before and after it
pub record Found {V : Type 0} (n : V) (ps : List (Passage V)) : Type 0 where
  pub before : List (Passage V)
  pub here : Passage V
  pub after : List (Passage V)
  pub whole : ps ≡ before ++ here ∷ after
  pub same : n ≡ here.node
  pub none_before : AllByRecursion (λ q. n ≢ q.node) before

pub find : {V : Type 0} → Discrete V → (n : V) (ps : List (Passage V)) → Found n ps ⊎ AllByRecursion (λ q. n ≢ q.node) ps
find same n [] = inr tt
find same n (p ∷ ps) = go (same n p.node) (find same n ps)
  where
    go : Dec (n ≡ p.node) → Found n ps ⊎ AllByRecursion (λ q. n ≢ q.node) ps → Found n (p ∷ ps) ⊎ AllByRecursion (λ q. n ≢ q.node) (p ∷ ps)
    go (yes e) r = inl (record { before = []; here = p; after = ps; whole = refl; same = e; none_before = tt })
    go (no e) (inl f) = inl (record { before = p ∷ f.before; here = f.here; after = f.after; whole = ap (λ r. p ∷ r) f.whole; same = f.same; none_before = (e, f.none_before) })
    go (no e) (inr f) = inr (e, f)

pub apart_before : {V : Type 0} (xs ys : List (Passage V)) → AreApart (xs ++ ys) → AreApart xs
apart_before [] ys h = tt
apart_before (x ∷ xs) ys h = (all_left (λ q. x.node ≢ q.node) xs ys h.0, apart_before xs ys h.1)

-- if each element has P to itself, each has it to some element of the list
pub each_any : {X : Type 0} (P : X → X → Type 0) → ((x : X) → P x x) → (xs : List X) → AllByRecursion (λ x. AnyByRecursion (P x) xs) xs
each_any P r [] = tt
each_any P r (x ∷ xs) = (inl (r x), all_map (λ y. AnyByRecursion (P y) xs) (λ y. AnyByRecursion (P y) (x ∷ xs)) (λ y h. inr h) xs (each_any P r xs))

-- a port by which some passage enters, or leaves
module _ {V : Type 0} (ps : List (Passage V)) (port : V × ℕ) where
  abbrev pub IsEntered : Type 0
  IsEntered = AnyByRecursion (λ p. entered p ≡ port) ps

  abbrev pub IsLeft : Type 0
  IsLeft = AnyByRecursion (λ p. left p ≡ port) ps

pub not_entered : {V : Type 0} (m : V) (v : V × ℕ) (ps : List (Passage V)) → AllByRecursion (λ q. m ≢ q.node) ps → IsEntered ps v → m ≡ v.0 → ⊥
not_entered m v [] h e i = e
not_entered m v (p ∷ ps) h (inl e) i = h.0 (i ∙ sym (ap (λ r. r.0) e))
not_entered m v (p ∷ ps) h (inr e) i = not_entered m v ps h.1 e i

pub not_left : {V : Type 0} (m : V) (v : V × ℕ) (ps : List (Passage V)) → AllByRecursion (λ q. m ≢ q.node) ps → IsLeft ps v → m ≡ v.0 → ⊥
not_left m v [] h e i = e
not_left m v (p ∷ ps) h (inl e) i = h.0 (i ∙ sym (ap (λ r. r.0) e))
not_left m v (p ∷ ps) h (inr e) i = not_left m v ps h.1 e i

-- crossings at different nodes enter no class by which they leave
pub crossings_separate : (g : Graph) (ps : List (Passage g.Node)) → AllByRecursion (IsCrossing g) ps → AreApart ps → AreSeparate g (IsEntered ps) (IsLeft ps)
crossings_separate g [] h apart n i j e l = absurd e
crossings_separate g (p ∷ ps) h apart n i j (inl e) (inl l) = λ same. h.0 (ap (λ v. g.class v.0 v.1) e ∙ same ∙ sym (ap (λ v. g.class v.0 v.1) l))
crossings_separate g (p ∷ ps) h apart n i j (inl e) (inr l) = absurd (not_left p.node (n, j) ps apart.0 l (ap (λ r. r.0) e))
crossings_separate g (p ∷ ps) h apart n i j (inr e) (inl l) = absurd (not_entered p.node (n, i) ps apart.0 e (ap (λ r. r.0) l))
crossings_separate g (p ∷ ps) h apart n i j (inr e) (inr l) = crossings_separate g ps h.1 apart.1 n i j e l

module _ (g : Graph) (E L : g.Node × ℕ → Type 0) where
  -- a walk through a passage is a walk to it and one from it
  pub walk_to : (from to : g.Node × ℕ) (xs : List (Passage g.Node)) (q : Passage g.Node) (ys : List (Passage g.Node)) → Walk g E L from (xs ++ q ∷ ys) to → Walk g E L from xs (entered q) × E (entered q) × L (left q) × Walk g E L (left q) ys to
  walk_to from to [] q ys w = w
  walk_to from to (x ∷ xs) q ys w =
      let r = walk_to (left x) to xs q ys w.3 in
      ((w.0, w.1, w.2, r.0), r.1, r.2, r.3)

  pub walk_join : (from to : g.Node × ℕ) (xs : List (Passage g.Node)) (q : Passage g.Node) (ys : List (Passage g.Node)) → Walk g E L from xs (entered q) → E (entered q) → L (left q) → Walk g E L (left q) ys to → Walk g E L from (xs ++ q ∷ ys) to
  walk_join from to [] q ys w e l v = (w, e, l, v)
  walk_join from to (x ∷ xs) q ys w e l v = (w.0, w.1, w.2, walk_join (left x) to xs q ys w.3 e l v)

  pub walk-LeadsThrough : (from to : g.Node × ℕ) (xs : List (Passage g.Node)) → Walk g E L from xs to → LeadsThrough g from xs to
  walk-LeadsThrough from to [] w = w
  walk-LeadsThrough from to (x ∷ xs) w = (w.0, walk-LeadsThrough (left x) to xs w.3)

  pub walk_crossing : AreSeparate g E L → (from to : g.Node × ℕ) (xs : List (Passage g.Node)) → Walk g E L from xs to → AllByRecursion (IsCrossing g) xs
  walk_crossing s from to [] w = tt
  walk_crossing s from to (x ∷ xs) w = (s x.node x.enter x.leave w.1 w.2, walk_crossing s (left x) to xs w.3)

  -- a walk whose nodes are different and that comes back to its first node is a crossing circle
  cycle_of : AreSeparate g E L → (n : g.Node) (i j : ℕ) (xs : List (Passage g.Node)) → E (n, i) → L (n, j) → Walk g E L (n, j) xs (n, i) → AllByRecursion (λ q. n ≢ q.node) xs → AreApart xs → CrossingCircle g
  cycle_of s n i j xs e l w other apart =
      record {
        first = record { node = n; enter = i; leave = j };
        rest = xs;
        closed = walk-LeadsThrough (n, j) (n, i) xs w;
        crossing = (s n i j e l, walk_crossing s (n, j) (n, i) xs w);
        apart = (other, apart);
      }

  -- going from the end of a walk to its start, the first node that comes again closes a circle
  pub scan : Discrete g.Node → AreSeparate g E L → (p : Passage g.Node) (ps : List (Passage g.Node)) (to : g.Node × ℕ) → L (left p) → Walk g E L (left p) ps to → CrossingCircle g ⊎ AreApart (p ∷ ps)
  scan same s p [] to l w = inr (tt, tt)
  scan same s p (q ∷ qs) to l w = go (scan same s q qs to w.2 w.3)
    where
      found : AreApart (q ∷ qs) → Found p.node (q ∷ qs) → CrossingCircle g
      found apart f =
          let w' = walk_to (left p) to f.before f.here f.after (subst (λ ps. Walk g E L (left p) ps to) f.whole w) in
          let apart' : AreApart (f.before ++ f.here ∷ f.after) = subst AreApart f.whole apart in
          cycle_of s p.node f.here.enter p.leave f.before
          (subst (λ v. E (v, f.here.enter)) (sym f.same) w'.1) l
          (subst (λ v. Walk g E L (left p) f.before (v, f.here.enter)) (sym f.same) w'.0)
          f.none_before (apart_before f.before (f.here ∷ f.after) apart')

      go : CrossingCircle g ⊎ AreApart (q ∷ qs) → CrossingCircle g ⊎ AreApart (p ∷ q ∷ qs)
      go (inl c) = inl c
      go (inr apart) = elim (find same p.node (q ∷ qs)) [ inl f ↦ inl (found apart f) | inr f ↦ inr (f, apart) ]

  -- a closed walk that enters no class by which it leaves shortens to a crossing circle
  pub shorten : Discrete g.Node → AreSeparate g E L → Circuit g E L → CrossingCircle g
  shorten same s c = go (scan same s c.first c.rest (entered c.first) c.leaves c.closed)
    where
      go : CrossingCircle g ⊎ AreApart (c.first ∷ c.rest) → CrossingCircle g
      go (inl r) = r
      go (inr apart) =
          record {
            first = c.first;
            rest = c.rest;
            closed = walk-LeadsThrough (left c.first) (entered c.first) c.rest c.closed;
            crossing = (s c.first.node c.first.enter c.first.leave c.enters c.leaves, walk_crossing s (left c.first) (entered c.first) c.rest c.closed);
            apart = apart;
          }

  -- a closed walk can begin at any of its passages
  abbrev pub rotate : (first : Passage g.Node) (xs : List (Passage g.Node)) (q : Passage g.Node) (ys : List (Passage g.Node)) → E (entered first) → L (left first) → Walk g E L (left first) (xs ++ q ∷ ys) (entered first) → Circuit g E L
  rotate first xs q ys e l w =
      let r = walk_to (left first) (entered first) xs q ys w in
      record {
        first = q;
        rest = ys ++ first ∷ xs;
        enters = r.1;
        leaves = r.2;
        closed = walk_join (left q) (entered q) ys first xs r.3 e l r.0;
      }

  pub leads_walk : (from to : g.Node × ℕ) (ps : List (Passage g.Node)) → LeadsThrough g from ps to → AllByRecursion (λ p. E (entered p)) ps → AllByRecursion (λ p. L (left p)) ps → Walk g E L from ps to
  leads_walk from to [] w e l = w
  leads_walk from to (p ∷ ps) w e l = (w.0, e.0, l.0, leads_walk (left p) to ps w.1 e.1 l.1)

-- a crossing circle is a closed walk
abbrev pub circuit_of : (g : Graph) (r : CrossingCircle g) → Circuit g (IsEntered (r.first ∷ r.rest)) (IsLeft (r.first ∷ r.rest))
circuit_of g r =
    let e = each_any (λ p q. entered q ≡ entered p) (λ p. refl) (r.first ∷ r.rest) in
    let l = each_any (λ p q. left q ≡ left p) (λ p. refl) (r.first ∷ r.rest) in
    record {
      first = r.first;
      rest = r.rest;
      enters = e.0;
      leaves = l.0;
      closed = leads_walk g (IsEntered (r.first ∷ r.rest)) (IsLeft (r.first ∷ r.rest)) (left r.first) (entered r.first) r.rest r.closed e.1 l.1;
    }
