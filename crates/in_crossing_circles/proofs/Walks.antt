-- Walks through nodes of a set: joined, turned, and counted by their visits and their cusps.
use Rattle.std.proofs.Common.{◌≡◌, ◌≢◌, ◌⊎◌, ◌≤◌, ◌<◌, ◌+◌, ℕ, Bool, true, false, cond, List, [], ◌∷◌, ◌++◌, refl, sym, subst, ap, inl, inr, ◌∙◌, arith}
use native.Mathlib.Decide.{ℕ_discrete}
use Rattle.std.specs.List.{AllByRecursion}
use Rattle.in_base.specs.Graphs.{Passage, entered, left, LeadsThrough, IsCrossing, AreApart, CrossingCircle}
use Rattle.in_base.proofs.Each.{all_append, all_map}
use Rattle.in_base.proofs.Circuits.{Walk, find, walk_join, walk_to, walk-LeadsThrough}
use Rattle.in_open_nets.specs.Constructions.{IsIn}
use Rattle.in_open_nets.specs.Derivations.{one_if}
use Rattle.in_open_nets.specs.Splitting.{Linked, alone, onward, Without}
use Rattle.in_open_nets.specs.declared.open_nets.OpenPoint.TheVariants.{Port}
use Rattle.in_open_nets.specs.OpenNets.{OpenNet, class_in, open_graph}
use Rattle.in_open_nets.proofs.Public.{one_other, one_same, same_nat, wire_turn}
use Rattle.in_crossing_circles.specs.Laws.{HasCircleIn}

-- ---- lists of passages

abbrev pub turn : Passage ℕ → Passage ℕ
turn p = record { node = p.node; enter = p.leave; leave = p.enter }

-- the other way round
abbrev pub back : List (Passage ℕ) → List (Passage ℕ)
back [] = []
back (p ∷ ps) = back ps ++ turn p ∷ []

abbrev total : (Passage ℕ → ℕ) → List (Passage ℕ) → ℕ
total f [] = 0
total f (p ∷ ps) = f p + total f ps

total_join : (f : Passage ℕ → ℕ) (xs ys : List (Passage ℕ)) → total f (xs ++ ys) ≡ total f xs + total f ys
total_join f [] ys = omega arith
total_join f (x ∷ xs) ys = let r = total_join f xs ys in omega arith

total_back : (f : Passage ℕ → ℕ) → ((p : Passage ℕ) → f (turn p) ≡ f p) → (xs : List (Passage ℕ)) → total f (back xs) ≡ total f xs
total_back f same [] = refl
total_back f same (x ∷ xs) =
    let r = total_back f same xs in
    let e = total_join f (back xs) (turn x ∷ []) in
    let s = same x in
    omega arith

-- how often the walk visits n
abbrev pub visits : ℕ → List (Passage ℕ) → ℕ
visits n ps = total (λ p. one_if n p.node) ps

pub visits_join : (n : ℕ) (xs ys : List (Passage ℕ)) → visits n (xs ++ ys) ≡ visits n xs + visits n ys
visits_join n xs ys = total_join (λ p. one_if n p.node) xs ys

pub visits_back : (n : ℕ) (xs : List (Passage ℕ)) → visits n (back xs) ≡ visits n xs
visits_back n xs = total_back (λ p. one_if n p.node) (λ p. refl) xs

pub no_visit : (n : ℕ) (ps : List (Passage ℕ)) → AllByRecursion (λ q. n ≢ q.node) ps → visits n ps ≡ 0
no_visit n [] h = refl
no_visit n (p ∷ ps) h = let a = one_other n p.node h.0 in let r = no_visit n ps h.1 in omega arith

others : (n : ℕ) (ps : List (Passage ℕ)) → visits n ps ≡ 0 → AllByRecursion (λ q. n ≢ q.node) ps
others n [] h = tt
others n (p ∷ ps) h = ((λ e. let a = one_same n p.node e in absurd (omega arith)), others n ps (omega arith))

pub are_apart : (ps : List (Passage ℕ)) → ((n : ℕ) → visits n ps ≤ 1) → AreApart ps
are_apart [] h = tt
are_apart (p ∷ ps) h = (
  others p.node ps (let a = h p.node in let b = one_same p.node p.node refl in omega arith),
  are_apart ps (λ n. let a = h n in omega arith),
)

pub few_visits : (ps : List (Passage ℕ)) → AreApart ps → (n : ℕ) → visits n ps ≤ 1
few_visits [] h n = omega arith
few_visits (p ∷ ps) h n = elim (same_nat n p.node) [
  | inl e ↦ let a = one_same n p.node e in let b = no_visit n ps (subst (λ z. AllByRecursion (λ q. z ≢ q.node) ps) (sym e) h.0) in omega arith
  | inr d ↦ let a = one_other n p.node d in let b = few_visits ps h.1 n in omega arith
]

pub all_back : (P : Passage ℕ → Type 0) (ps : List (Passage ℕ)) → AllByRecursion (λ p. P (turn p)) ps → AllByRecursion P (back ps)
all_back P [] h = tt
all_back P (p ∷ ps) h = all_append P (back ps) (turn p ∷ []) (all_back P ps h.1) (h.0, tt)

-- ---- in a set of nodes

-- 1 for a node of the set, and 0 for another
abbrev pub room : (ℕ → Bool) → ℕ → ℕ
room t n = cond (t n) 1 0

pub room_most : (t : ℕ → Bool) (n : ℕ) → room t n ≤ 1
room_most t n = go (t n)
  where
    go : (b : Bool) → cond {A = ℕ} b 1 0 ≤ 1
    go true = omega arith
    go false = omega arith

pub has_room : (t : ℕ → Bool) (n : ℕ) → IsIn n t → room t n ≡ 1
has_room t n h = rw h refl

pub is_in : (t : ℕ → Bool) (n : ℕ) → 0 < room t n → IsIn n t
is_in t n = go (t n)
  where
    go : (b : Bool) → 0 < cond {A = ℕ} b 1 0 → b ≡ true
    go true h = refl
    go false h = absurd (omega arith)

all_in : (t : ℕ → Bool) (ps : List (Passage ℕ)) → ((n : ℕ) → visits n ps ≤ room t n) → AllByRecursion (λ p. IsIn p.node t) ps
all_in t [] h = tt
all_in t (p ∷ ps) h = (
  is_in t p.node (let a = h p.node in let b = one_same p.node p.node refl in omega arith),
  all_in t ps (λ n. let a = h n in omega arith),
)

module _ (o : OpenNet) where
  abbrev pub Wire : ℕ × ℕ → ℕ × ℕ → Type 0
  Wire = (open_graph o).Wire

  pub turned : (u v : ℕ × ℕ) → Wire u v → Wire v u
  turned u v w = (w.0, wire_turn o w.0 (Port u.0 u.1) (Port v.0 v.1) w.1)

  abbrev Any : ℕ × ℕ → Type 0
  Any v = Unit {0}

  -- wires through these nodes in turn
  abbrev pub Way : ℕ × ℕ → List (Passage ℕ) → ℕ × ℕ → Type 0
  Way from ps to = Walk (open_graph o) Any Any from ps to

  pub way_join : (from to : ℕ × ℕ) (xs : List (Passage ℕ)) (q : Passage ℕ) (ys : List (Passage ℕ)) → Way from xs (entered q) → Way (left q) ys to → Way from (xs ++ q ∷ ys) to
  way_join from to xs q ys w v = walk_join (open_graph o) Any Any from to xs q ys w tt tt v

  pub way_to : (from to : ℕ × ℕ) (xs : List (Passage ℕ)) (q : Passage ℕ) (ys : List (Passage ℕ)) → Way from (xs ++ q ∷ ys) to → Way from xs (entered q) × Way (left q) ys to
  way_to from to xs q ys w = let r = walk_to (open_graph o) Any Any from to xs q ys w in (r.0, r.3)

  pub way_back : (from to : ℕ × ℕ) (ps : List (Passage ℕ)) → Way from ps to → Way to (back ps) from
  way_back from to [] w = turned from to w
  way_back from to (p ∷ ps) w = way_join to from (back ps) (turn p) [] (way_back (left p) to ps w.3) (turned from (entered p) w.0)

  -- a cusp: a passage that enters and leaves its node by one class
  abbrev cusp : Passage ℕ → ℕ
  cusp p = one_if (class_in o p.node p.enter) (class_in o p.node p.leave)

  abbrev pub cusps : List (Passage ℕ) → ℕ
  cusps ps = total cusp ps

  pub cusps_join : (xs ys : List (Passage ℕ)) → cusps (xs ++ ys) ≡ cusps xs + cusps ys
  cusps_join xs ys = total_join cusp xs ys

  one_turned : (a b : ℕ) → one_if a b ≡ one_if b a
  one_turned a b = elim (same_nat a b) [
    | inl e ↦ one_same a b e ∙ sym (one_same b a (sym e))
    | inr d ↦ one_other a b d ∙ sym (one_other b a (λ e. d (sym e)))
  ]

  pub cusps_back : (xs : List (Passage ℕ)) → cusps (back xs) ≡ cusps xs
  cusps_back xs = total_back cusp (λ p. one_turned (class_in o p.node p.leave) (class_in o p.node p.enter)) xs

  -- the first cusp of a walk
  pub record FirstCusp (ps : List (Passage ℕ)) : Type 0 where
    pub before : List (Passage ℕ)
    pub here : Passage ℕ
    pub after : List (Passage ℕ)
    pub whole : ps ≡ before ++ here ∷ after
    pub crossing : cusps before ≡ 0
    pub cusp : class_in o here.node here.enter ≡ class_in o here.node here.leave

  pub first_cusp : (ps : List (Passage ℕ)) → (cusps ps ≡ 0) ⊎ FirstCusp ps
  first_cusp [] = inl refl
  first_cusp (p ∷ ps) = elim (same_nat (class_in o p.node p.enter) (class_in o p.node p.leave)) [
    | inl e ↦ inr (record { before = []; here = p; after = ps; whole = refl; crossing = refl; cusp = e })
    | inr d ↦
        let a = one_other (class_in o p.node p.enter) (class_in o p.node p.leave) d in
        elim (first_cusp ps) [
          | inl z ↦ inl (omega arith)
          | inr f ↦ inr (let z = f.crossing in record { before = p ∷ f.before; here = f.here; after = f.after; whole = ap (λ r. p ∷ r) f.whole; crossing = omega arith; cusp = f.cusp })
        ]
  ]

  all_cross : (ps : List (Passage ℕ)) → cusps ps ≡ 0 → AllByRecursion (IsCrossing (open_graph o)) ps
  all_cross [] h = tt
  all_cross (p ∷ ps) h = (
    (λ e. let a = one_same (class_in o p.node p.enter) (class_in o p.node p.leave) e in absurd (omega arith)),
    all_cross ps (omega arith),
  )

  pub leads_way : (from to : ℕ × ℕ) (ps : List (Passage ℕ)) → LeadsThrough (open_graph o) from ps to → Way from ps to
  leads_way from to [] w = w
  leads_way from to (p ∷ ps) w = (w.0, tt, tt, leads_way (left p) to ps w.1)

  -- a crossing circle the other way round
  abbrev pub circle_back : CrossingCircle (open_graph o) → CrossingCircle (open_graph o)
  circle_back c =
      record {
        first = turn c.first;
        rest = back c.rest;
        closed = walk-LeadsThrough (open_graph o) Any Any (entered c.first) (left c.first) (back c.rest) (way_back (left c.first) (entered c.first) c.rest (leads_way (left c.first) (entered c.first) c.rest c.closed));
        crossing = (
          (λ e. c.crossing.0 (sym e)),
          all_back (IsCrossing (open_graph o)) c.rest (all_map (IsCrossing (open_graph o)) (λ p. IsCrossing (open_graph o) (turn p)) (λ p h e. h (sym e)) c.rest c.crossing.1),
        );
        apart = are_apart (turn c.first ∷ back c.rest) (λ n. let a = few_visits (c.first ∷ c.rest) c.apart n in let b = visits_back n c.rest in omega arith);
      }

  module _ (t : ℕ → Bool) where
    -- a closed walk without a cusp is a crossing circle
    pub circle : (v i j : ℕ) (ps : List (Passage ℕ)) → Way (v, i) ps (v, j) → class_in o v j ≢ class_in o v i → cusps ps ≡ 0 → ((n : ℕ) → one_if n v + visits n ps ≤ room t n) → HasCircleIn o t
    circle v i j ps w differ crossing apart =
        let first : Passage ℕ = record { node = v; enter = j; leave = i } in (
          record {
            first = first;
            rest = ps;
            closed = walk-LeadsThrough (open_graph o) Any Any (v, i) (v, j) ps w;
            crossing = (differ, all_cross ps crossing);
            apart = are_apart (first ∷ ps) (λ n. let a = apart n in let b = room_most t n in omega arith);
          },
          all_in t (first ∷ ps) apart,
        )

    pub one_room : (k n : ℕ) → IsIn n t → one_if k n ≤ room t k
    one_room k n here = elim (same_nat k n) [
      | inl e ↦ let a = one_same k n e in let b = has_room t k (subst (λ z. IsIn z t) (sym e) here) in omega arith
      | inr d ↦ let a = one_other k n d in omega arith
    ]

    -- one more node of the set has room
    one_more : (k n l c : ℕ) → Without n t l → (k ≡ l → c ≡ 0) → one_if k n + c ≤ room t k → one_if k n + (one_if k l + c) ≤ room t k
    one_more k n l c here fresh apart = elim (same_nat k l) [
      | inl e ↦
          let a = one_same k l e in
          let b = one_other k n (λ f. here.1 (sym e ∙ f)) in
          let r = has_room t k (subst (λ z. IsIn z t) (sym e) here.0) in
          let z = fresh e in
          omega arith
      | inr d ↦ let a = one_other k l d in omega arith
    ]

    -- between linked nodes there is a walk through different nodes
    pub linked_way : (n : ℕ) → IsIn n t → (l m : ℕ) → Linked (open_graph o) (Without n t) l m → (e h : ℕ) (from to : ℕ × ℕ) → Wire from (l, e) → Wire (m, h) to →
        (ps : List (Passage ℕ)) × Way from ps to × ((k : ℕ) → one_if k n + visits k ps ≤ room t k)
    linked_way n here l _ (alone _ p) e h from to w v = (
      record { node = l; enter = e; leave = h } ∷ [],
      (w, tt, tt, v),
      λ k. one_more k n l 0 p (λ f. refl) (let a = one_room k n here in omega arith),
    )
    linked_way n here l m (onward _ y _ i j p x link) e h from to w v = go (linked_way n here y m link j h (l, i) to x v)
      where
        go : (ps : List (Passage ℕ)) × Way (l, i) ps to × ((k : ℕ) → one_if k n + visits k ps ≤ room t k) → (ps : List (Passage ℕ)) × Way from ps to × ((k : ℕ) → one_if k n + visits k ps ≤ room t k)
        go r = elim (find ℕ_discrete l r.0) [
          | inl f ↦ (
            record { node = l; enter = e; leave = f.here.leave } ∷ f.after,
            (w, tt, tt, subst (λ z. Way (z, f.here.leave) f.after to) (sym f.same) (way_to (l, i) to f.before f.here f.after (subst (λ z. Way (l, i) z to) f.whole r.1)).1),
            λ k.
                let a = r.2 k in
                let b = ap (visits k) f.whole in
                let c = visits_join k f.before (f.here ∷ f.after) in
                let d : one_if k l ≡ one_if k f.here.node = ap (one_if k) f.same in
                omega arith,
          )
          | inr none ↦ (
            record { node = l; enter = e; leave = i } ∷ r.0,
            (w, tt, tt, r.1),
            λ k. one_more k n l (visits k r.0) p (λ f. ap (λ z. visits z r.0) f ∙ no_visit l r.0 none) (r.2 k),
          )
        ]
