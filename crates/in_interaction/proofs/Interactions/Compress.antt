-- A closed walk over both sides of an interaction gives a crossing circle in the net before, or in the open right member.
use Rattle.std.proofs.Common.{◌≡◌, ◌≢◌, ◌⊎◌, ℕ, List, [], ◌∷◌, ◌++◌, refl, sym, subst, ap, inl, inr, ◌∙◌}
use mathlib.Core.HLevel.{Discrete}
use mathlib.Core.Sum as Sum
use Rattle.std.specs.List.{AllByRecursion}
use Rattle.in_base.specs.Graphs.{Graph, Passage, CrossingCircle}
use Rattle.in_net.specs.Interactions.{Side, Outer, Inner}
use Rattle.in_interaction.proofs.Interactions.Places.{Place, Old, New, Boundary, Loose}
use Rattle.in_base.proofs.Circuits.{Walk, AreSeparate, shorten}
use Rattle.in_interaction.proofs.Interactions.Tours.{Stop, At_old, At_new, Through, enters, leaves, Tour}
use Rattle.in_interaction.proofs.Interactions.Stops.{tour_to, tour_join, ClosedTour}
use Rattle.in_interaction.proofs.Interactions.Pieces.{close_one, close_two}

pub outer_inner : Outer ≡ Inner → ⊥
outer_inner e = cc

-- it is no free end
abbrev pub IsOn : {A B : Type 0} → Place A B → Type 0
IsOn (Old x i) = Unit {0}
IsOn (New y i) = Unit {0}
IsOn (Boundary e) = Unit {0}
IsOn (Loose k) = ⊥

-- a stop that is entered inside, and the stops before and after it
record FoundInside {A B : Type 0} (ps : List (Stop A B)) : Type 0 where
  before : List (Stop A B)
  here : Stop A B
  after : List (Stop A B)
  whole : ps ≡ before ++ here ∷ after
  inside : (enters here).0 ≡ Inner

side : {A B : Type 0} (q : Stop A B) → ((enters q).0 ≡ Inner) ⊎ ((enters q).0 ≡ Outer)
side (At_old x i j) = inr refl
side (At_new y i j) = inl refl
side (Through Outer e) = inr refl
side (Through Inner e) = inl refl

find_inside : {A B : Type 0} (ps : List (Stop A B)) → FoundInside ps ⊎ AllByRecursion (λ q. (enters q).0 ≡ Outer) ps
find_inside [] = inr tt
find_inside (p ∷ ps) = go (side p) (find_inside ps)
  where
    go : ((enters p).0 ≡ Inner) ⊎ ((enters p).0 ≡ Outer) → FoundInside ps ⊎ AllByRecursion (λ q. (enters q).0 ≡ Outer) ps → FoundInside (p ∷ ps) ⊎ AllByRecursion (λ q. (enters q).0 ≡ Outer) (p ∷ ps)
    go (inl e) r = inl (record { before = []; here = p; after = ps; whole = refl; inside = e })
    go (inr e) (inl f) = inl (record { before = p ∷ f.before; here = f.here; after = f.after; whole = ap (λ r. p ∷ r) f.whole; inside = f.inside })
    go (inr e) (inr f) = inr (e, f)

-- the two nets of an interaction, with the places of their wires
pub record Sides (A B C : Type 0) : Type 1 where
  -- the net before, with its active pair, and the port that is at each boundary end
  pub class : A → ℕ → ℕ
  pub Joins : A × ℕ → A × ℕ → Type 0
  pub one : A
  pub two : A
  pub port : ℕ → A × ℕ
  -- the open right member: its agents' classes, the class node of each boundary end, and its wires
  pub new_class : B → ℕ → ℕ
  pub group : ℕ → C
  pub Open : (B ⊎ C) × ℕ → (B ⊎ C) × ℕ → Type 0

module _ {A B C : Type 0} (s : Sides A B C) where
  abbrev pub before : Graph
  before = record { Node = A; class = s.class; Wire = s.Joins }

  abbrev pub open_member : Graph
  open_member = record { Node = B ⊎ C; class = λ n i. elim n [ inl y ↦ s.new_class y i | inr c ↦ i ]; Wire = s.Open }

  -- the port of the net before, or of the open right member, at a place
  abbrev pub outer_port : Place A B → A × ℕ
  outer_port (Old x i) = (x, i)
  outer_port (New y i) = s.port 0
  outer_port (Boundary e) = s.port e
  outer_port (Loose k) = s.port 0

  abbrev pub inner_port : Place A B → (B ⊎ C) × ℕ
  inner_port (Old x i) = (inr (s.group 0), 0)
  inner_port (New y i) = (inl y, i)
  inner_port (Boundary e) = (inr (s.group e), e)
  inner_port (Loose k) = (inr (s.group 0), 0)

  pub record AreSides (wire : Side → Place A B → Place A B → Type 0) : Type 0 where
    pub outer : (p q : Place A B) → IsOn p → IsOn q → wire Outer p q → s.Joins (outer_port p) (outer_port q)
    pub inner : (p q : Place A B) → wire Inner p q → s.Open (inner_port p) (inner_port q)
    pub old : (p : Place A B) (x : A) (i : ℕ) → wire Outer p (Old x i) → (x ≢ s.one) × (x ≢ s.two)
    pub differ : s.one ≢ s.two
    pub pair : s.Joins (s.one, 0) (s.two, 0)
    pub pair_back : s.Joins (s.two, 0) (s.one, 0)
    pub at_pair : (e : ℕ) → ((s.port e).0 ≡ s.one) ⊎ ((s.port e).0 ≡ s.two)
    pub principal : (e : ℕ) → s.class (s.port e).0 (s.port e).1 ≢ s.class (s.port e).0 0
    pub grouped : (e f : ℕ) → (s.port e).0 ≡ (s.port f).0 → s.class (s.port e).0 (s.port e).1 ≡ s.class (s.port f).0 (s.port f).1 → s.group e ≡ s.group f

  module _ (wire : Side → Place A B → Place A B → Type 0) (sides : AreSides wire) (sameA : Discrete A) (sameC : Discrete C) (En Le : Side → Place A B → Type 0) where
    -- agents that are entered and left by different classes, and boundary ends that are not entered and left by one side
    pub record AreOneWay : Type 0 where
      pub old : (x : A) (i j : ℕ) → En Outer (Old x i) → Le Outer (Old x j) → s.class x i ≢ s.class x j
      pub new : (y : B) (i j : ℕ) → En Inner (New y i) → Le Inner (New y j) → s.new_class y i ≢ s.new_class y j
      pub ends : (t : Side) (e : ℕ) → En t (Boundary e) → Le t (Boundary e) → ⊥

    -- the ports that are entered and left in the net before, and in the open right member
    abbrev E_out : A × ℕ → Type 0
    E_out v = En Outer (Old v.0 v.1) × (v.0 ≢ s.one) × (v.0 ≢ s.two)

    abbrev L_out : A × ℕ → Type 0
    L_out v = Le Outer (Old v.0 v.1) × (v.0 ≢ s.one) × (v.0 ≢ s.two)

    abbrev E_in : (B ⊎ C) × ℕ → Type 0
    E_in v = elim v.0 [ inl y ↦ En Inner (New y v.1) | inr c ↦ En Inner (Boundary v.1) ]

    abbrev L_in : (B ⊎ C) × ℕ → Type 0
    L_in v = elim v.0 [ inl y ↦ Le Inner (New y v.1) | inr c ↦ Le Inner (Boundary v.1) ]

    separate_in : AreOneWay → AreSeparate open_member E_in L_in
    separate_in w (inl y) i j e l = w.new y i j e l
    separate_in w (inr c) i j e l = λ h. w.ends Inner i e (subst (λ k. Le Inner (Boundary k)) (sym h) l)

    separate_out : AreOneWay → AreSeparate before E_out L_out
    separate_out w n i j e l = w.old n i j e.0 l.0

    -- a walk outside the pair between two classes of one of its agents
    piece_one : AreOneWay → (e f : ℕ) → s.group e ≢ s.group f → ((s.port e).0 ≡ s.one) ⊎ ((s.port e).0 ≡ s.two) → (s.port f).0 ≡ (s.port e).0 → (xs : List (Passage A)) → Walk before E_out L_out (s.port e) xs (s.port f) → CrossingCircle before
    piece_one one_way e f apart at here xs w =
        close_one before sameA E_out L_out (separate_out one_way) (s.port e).0 (s.port f).1 (s.port e).1
        (λ h. apart (sides.grouped e f (sym here) (sym h ∙ ap (λ x. s.class x (s.port f).1) (sym here))))
        (λ v k. avoids v k.1 k.2) (λ v k. avoids v k.1 k.2) xs
        (subst (λ x. Walk before E_out L_out (s.port e) xs (x, (s.port f).1)) here w)
      where
        avoids : (v : A × ℕ) → v.0 ≢ s.one → v.0 ≢ s.two → v.0 ≢ (s.port e).0
        avoids v no_one no_two h = elim at [ inl k ↦ no_one (h ∙ k) | inr k ↦ no_two (h ∙ k) ]

    -- one between both agents
    piece_two : AreOneWay → (e f : ℕ) (x y : A) → (s.port e).0 ≡ x → (s.port f).0 ≡ y → x ≢ y → s.Joins (y, 0) (x, 0) → ((v : A × ℕ) → v.0 ≢ s.one → v.0 ≢ s.two → (v.0 ≢ x) × (v.0 ≢ y)) → (xs : List (Passage A)) → Walk before E_out L_out (s.port e) xs (s.port f) → CrossingCircle before
    piece_two one_way e f x y he hf differ pair avoids xs w =
        close_two before sameA E_out L_out (separate_out one_way) x y (s.port f).1 (s.port e).1 differ pair
        (subst (λ z. s.class z (s.port f).1 ≢ s.class z 0) hf (sides.principal f))
        (λ h. subst (λ z. s.class z (s.port e).1 ≢ s.class z 0) he (sides.principal e) (sym h))
        (λ v k. avoids v k.1 k.2) (λ v k. avoids v k.1 k.2) xs
        (subst (λ z. Walk before E_out L_out (z, (s.port e).1) xs (y, (s.port f).1)) he (subst (λ z. Walk before E_out L_out (s.port e) xs (z, (s.port f).1)) hf w))

    -- a walk outside the pair between boundary ends of different class nodes
    piece : AreOneWay → (e f : ℕ) → s.group e ≢ s.group f → (xs : List (Passage A)) → Walk before E_out L_out (s.port e) xs (s.port f) → CrossingCircle before
    piece one_way e f apart xs w =
        elim (sides.at_pair e) [
          | inl he ↦ elim (sides.at_pair f) [
            | inl hf ↦ piece_one one_way e f apart (inl he) (hf ∙ sym he) xs w
            | inr hf ↦ piece_two one_way e f s.one s.two he hf sides.differ sides.pair_back (λ v k l. (k, l)) xs w
          ]
          | inr he ↦ elim (sides.at_pair f) [
            | inl hf ↦ piece_two one_way e f s.two s.one he hf (λ h. sides.differ (sym h)) sides.pair (λ v k l. (l, k)) xs w
            | inr hf ↦ piece_one one_way e f apart (inr he) (hf ∙ sym he) xs w
          ]
        ]

    -- the result of a walk that ends inside: a crossing circle before, or a walk of the open right member; from outside
    -- also the first boundary end by which it comes in, and a walk to it
    abbrev Result : Side → Place A B → Place A B → Type 0
    Result Outer p r = CrossingCircle before ⊎ ((f : ℕ) × (xs : List (Passage A)) × (ys : List (Passage (B ⊎ C))) × Walk before E_out L_out (outer_port p) xs (s.port f) × Le Inner (Boundary f) × Walk open_member E_in L_in (inr (s.group f), f) ys (inner_port r))
    Result Inner p r = CrossingCircle before ⊎ ((ys : List (Passage (B ⊎ C))) × Walk open_member E_in L_in (inner_port p) ys (inner_port r))

    compress : AreOneWay → (ss : List (Stop A B)) (t : Side) (p r : Place A B) → IsOn p → Tour wire En Le (t, p) ss (Inner, r) → Result t p r
    compress one_way [] Outer p r on w = absurd (outer_inner w.0)
    compress one_way [] Inner p r on w = inr ([], sides.inner p r w.1)
    compress one_way (At_old x i j ∷ ss) Outer p r on w =
        elim (compress one_way ss Outer (Old x j) r tt w.3) [
          | inl c ↦ inl c
          | inr k ↦
              let far = sides.old p x i w.0.1 in
              inr (k.0, record { node = x; enter = i; leave = j } ∷ k.1, k.2, (sides.outer p (Old x i) on tt w.0.1, (w.1, far.0, far.1), (w.2, far.0, far.1), k.3), k.4, k.5)
        ]
    compress one_way (At_old x i j ∷ ss) Inner p r on w = absurd (outer_inner (sym w.0.0))
    compress one_way (At_new y i j ∷ ss) Outer p r on w = absurd (outer_inner w.0.0)
    compress one_way (At_new y i j ∷ ss) Inner p r on w =
        elim (compress one_way ss Inner (New y j) r tt w.3) [
          | inl c ↦ inl c
          | inr k ↦ inr (record { node = inl y; enter = i; leave = j } ∷ k.0, (sides.inner p (New y i) w.0.1, w.1, w.2, k.1))
        ]
    compress one_way (Through Outer e ∷ ss) Outer p r on w =
        elim (compress one_way ss Inner (Boundary e) r tt w.3) [
          | inl c ↦ inl c
          | inr k ↦ inr (e, [], k.0, sides.outer p (Boundary e) on tt w.0.1, w.2, k.1)
        ]
    compress one_way (Through Outer e ∷ ss) Inner p r on w = absurd (outer_inner (sym w.0.0))
    compress one_way (Through Inner e ∷ ss) Outer p r on w = absurd (outer_inner w.0.0)
    compress one_way (Through Inner e ∷ ss) Inner p r on w = go (compress one_way ss Outer (Boundary e) r tt w.3)
      where
        go : Result Outer (Boundary e) r → Result Inner p r
        go (inl c) = inl c
        go (inr k) =
            elim (sameC (s.group e) (s.group k.0)) [
              | yes h ↦ inr (
                record { node = inr (s.group e); enter = e; leave = k.0 } ∷ k.2,
                (sides.inner p (Boundary e) w.0.1, w.1, k.4, subst (λ c. Walk open_member E_in L_in (inr c, k.0) k.2 (inner_port r)) (sym h) k.5),
              )
              | no h ↦ inl (piece one_way e k.0 h k.1 k.3)
            ]

    -- a closed walk that begins inside
    from_inside : Discrete B → AreOneWay → (q : Stop A B) (ss : List (Stop A B)) → En (enters q).0 (enters q).1 → Le (leaves q).0 (leaves q).1 → Tour wire En Le (leaves q) ss (enters q) → (enters q).0 ≡ Inner → CrossingCircle before ⊎ CrossingCircle open_member
    from_inside sameB one_way (At_old x i j) ss e l w h = absurd (outer_inner h)
    from_inside sameB one_way (At_new y i j) ss e l w h =
        elim (compress one_way ss Inner (New y j) (New y i) tt w) [
          | inl c ↦ inl c
          | inr k ↦ inr (shorten open_member E_in L_in (Sum.discrete sameB sameC) (separate_in one_way)
              (record { first = record { node = inl y; enter = i; leave = j }; rest = k.0; enters = e; leaves = l; closed = k.1 }))
        ]
    from_inside sameB one_way (Through Outer b) ss e l w h = absurd (outer_inner h)
    from_inside sameB one_way (Through Inner b) ss e l w h = go (compress one_way ss Outer (Boundary b) (Boundary b) tt w)
      where
        go : Result Outer (Boundary b) (Boundary b) → CrossingCircle before ⊎ CrossingCircle open_member
        go (inl c) = inl c
        go (inr k) =
            elim (sameC (s.group b) (s.group k.0)) [
              | yes h ↦ inr (shorten open_member E_in L_in (Sum.discrete sameB sameC) (separate_in one_way)
                  (record {
                    first = record { node = inr (s.group b); enter = b; leave = k.0 };
                    rest = k.2;
                    enters = e;
                    leaves = k.4;
                    closed = subst (λ c. Walk open_member E_in L_in (inr c, k.0) k.2 (inr (s.group b), b)) (sym h) k.5;
                  }))
              | no h ↦ inl (piece one_way b k.0 h k.1 k.3)
            ]

    -- a walk none of whose stops is entered inside doesn't come from there
    not_from_inside : (p : Place A B) (ss : List (Stop A B)) (v : Side × Place A B) → v.0 ≡ Outer → AllByRecursion (λ q. (enters q).0 ≡ Outer) ss → Tour wire En Le (Inner, p) ss v → ⊥
    not_from_inside p [] v h out w = outer_inner (sym (w.0 ∙ h))
    not_from_inside p (q ∷ ss) v h out w = outer_inner (sym (w.0.0 ∙ out.0))

    -- .. and one to an agent that stays is a walk of the net before
    outside : (p : Place A B) (ss : List (Stop A B)) (x : A) (i : ℕ) → IsOn p → AllByRecursion (λ q. (enters q).0 ≡ Outer) ss → Tour wire En Le (Outer, p) ss (Outer, Old x i) → ((xs : List (Passage A)) × Walk before E_out L_out (outer_port p) xs (x, i)) × ((x ≢ s.one) × (x ≢ s.two))
    outside p [] x i on out w = (([], sides.outer p (Old x i) on tt w.1), sides.old p x i w.1)
    outside p (At_old y k j ∷ ss) x i on out w =
        let r = outside (Old y j) ss x i tt out.1 w.3 in
        let far = sides.old p y k w.0.1 in
        ((record { node = y; enter = k; leave = j } ∷ r.0.0, (sides.outer p (Old y k) on tt w.0.1, (w.1, far.0, far.1), (w.2, far.0, far.1), r.0.1)), r.1)
    outside p (At_new y k j ∷ ss) x i on out w = absurd (outer_inner (sym out.0))
    outside p (Through Outer b ∷ ss) x i on out w = absurd (not_from_inside (Boundary b) ss (Outer, Old x i) refl out.1 w.3)
    outside p (Through Inner b ∷ ss) x i on out w = absurd (outer_inner (sym out.0))

    from_outside : AreOneWay → (q : Stop A B) (ss : List (Stop A B)) → En (enters q).0 (enters q).1 → Le (leaves q).0 (leaves q).1 → Tour wire En Le (leaves q) ss (enters q) → AllByRecursion (λ q. (enters q).0 ≡ Outer) (q ∷ ss) → CrossingCircle before
    from_outside one_way (At_old x i j) ss e l w out =
        let r = outside (Old x j) ss x i tt out.1 w in
        shorten before E_out L_out sameA (separate_out one_way)
        (record { first = record { node = x; enter = i; leave = j }; rest = r.0.0; enters = (e, r.1.0, r.1.1); leaves = (l, r.1.0, r.1.1); closed = r.0.1 })
    from_outside one_way (At_new y i j) ss e l w out = absurd (outer_inner (sym out.0))
    from_outside one_way (Through Outer b) ss e l w out = absurd (not_from_inside (Boundary b) ss (Outer, Boundary b) refl out.1 w)
    from_outside one_way (Through Inner b) ss e l w out = absurd (outer_inner (sym out.0))

    -- a closed walk over both sides gives a crossing circle of one of the two nets
    pub circle_of_tour : Discrete B → AreOneWay → ClosedTour wire En Le → CrossingCircle before ⊎ CrossingCircle open_member
    circle_of_tour sameB one_way c =
        elim (side c.first) [
          | inl h ↦ from_inside sameB one_way c.first c.rest c.enter c.leave c.closed h
          | inr h ↦ elim (find_inside c.rest) [
            | inr out ↦ inl (from_outside one_way c.first c.rest c.enter c.leave c.closed (h, out))
            | inl f ↦
                let t = tour_to wire En Le (leaves c.first) (enters c.first) f.before f.here f.after (subst (λ ps. Tour wire En Le (leaves c.first) ps (enters c.first)) f.whole c.closed) in
                from_inside sameB one_way f.here (f.after ++ c.first ∷ f.before) t.1 t.2
                (tour_join wire En Le (leaves f.here) (enters f.here) f.after c.first f.before t.3 c.enter c.leave t.0) f.inside
          ]
        ]
