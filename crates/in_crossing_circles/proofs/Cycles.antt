-- Closed walks with fewer and fewer cusps: if no node splits a set of nodes, the set has a crossing circle.
use Rattle.std.proofs.Common.{◌≡◌, ◌≢◌, ◌⊎◌, ◌≤◌, ◌<◌, ◌+◌, ℕ, zero, suc, Bool, true, false, cond, nat_eq, List, [], ◌∷◌, ◌++◌, refl, sym, subst, ap, inl, inr, ◌∙◌, eq-eqb, arith}
use native.Mathlib.Decide.{ℕ_discrete}
use Rattle.std.proofs.lemmas.Bool.Decides.{eqb_tells}
use Rattle.in_base.specs.Graphs.{Passage, entered, left}
use Rattle.in_base.proofs.Circuits.{Found, find}
use Rattle.in_open_nets.specs.Constructions.{IsIn, count}
use Rattle.in_open_nets.specs.Derivations.{one_if}
use Rattle.in_open_nets.specs.OpenNets.{OpenNet, class_in}
use Rattle.in_open_nets.proofs.Public.{at_most, count_less, one_other, one_same, same_nat}
use Rattle.in_crossing_circles.specs.Laws.{HasCircleIn}
use Rattle.in_crossing_circles.proofs.Walks.{FirstCusp, Way, Wire, back, circle, cusps, cusps_back, cusps_join, first_cusp, is_in, no_visit, room, room_most, visits, visits_back, visits_join, way_back, way_join, way_to}

-- r without u
abbrev less : (ℕ → Bool) → ℕ → ℕ → Bool
less r u n = cond (nat_eq n u) false (r n)

less_itself : (r : ℕ → Bool) (u : ℕ) → less r u u ≡ false
less_itself r u = let e : nat_eq u u ≡ true = eq-eqb u u refl in rw e refl

less_kept : (r : ℕ → Bool) (u n : ℕ) → n ≢ u → IsIn n r → IsIn n (less r u)
less_kept r u n d h = elim (eqb_tells n u) [ inl k ↦ absurd (d k.1) | inr k ↦ let e : nat_eq n u ≡ false = k.0 in rw e h ]

less_in : (r : ℕ → Bool) (u n : ℕ) → IsIn n (less r u) → IsIn n r
less_in r u n h = go (nat_eq n u) h
  where
    go : (b : Bool) → cond b false (r n) ≡ true → IsIn n r
    go true k = cc
    go false k = k

module _ (o : OpenNet) (t : ℕ → Bool) where
  abbrev class : ℕ → ℕ → ℕ
  class n i = class_in o n i

  -- a closed walk from port i of v to its port j, of another class, through different nodes of the set
  pub record Cycle (v i j : ℕ) (ps : List (Passage ℕ)) : Type 0 where
    pub way : Way o (v, i) ps (v, j)
    pub changes : class v i ≢ class v j
    pub apart : (n : ℕ) → one_if n v + visits n ps ≤ room t n

  pub cycle_back : (v i j : ℕ) (ps : List (Passage ℕ)) → Cycle v i j ps → Cycle v j i (back ps)
  cycle_back v i j ps c = record {
    way = way_back o (v, i) (v, j) ps c.way;
    changes = λ e. c.changes (sym e);
    apart = λ n. let a = c.apart n in let b = visits_back n ps in omega arith;
  }

  -- a walk without a cusp, through different nodes of the set
  record Path (v i : ℕ) (ps : List (Passage ℕ)) (w c : ℕ) : Type 0 where
    way : Way o (v, i) ps (w, c)
    crossing : cusps o ps ≡ 0
    apart : (n : ℕ) → one_if n v + visits n ps + one_if n w ≤ room t n

  -- A closed walk from v by A to its first cusp u, and by B back to v; and one from u by q, that leaves u by another class. Where it reaches the
  -- closed walk again, there is a closed walk with fewer cusps, or one without any.
  module _ (v i j : ℕ) (A : List (Passage ℕ)) (u : Passage ℕ) (B : List (Passage ℕ)) (changes : class v i ≢ class v j)
      (way_A : Way o (v, i) A (entered u)) (way_B : Way o (left u) B (v, j)) (crossing_A : cusps o A ≡ 0) (cusp : class u.node u.enter ≡ class u.node u.leave)
      (fewer : (k l : ℕ) (ps : List (Passage ℕ)) → Cycle v k l ps → class v k ≡ class v i → cusps o ps ≤ cusps o B → HasCircleIn o t) where
    -- nodes of the closed walk without u
    abbrev around : ℕ → ℕ
    around n = one_if n v + visits n A + visits n B

    abbrev IsAround : ℕ → Type 0
    IsAround n = (v ≡ n) ⊎ (Found n A ⊎ Found n B)

    is_around : (n : ℕ) → IsAround n ⊎ (around n ≡ 0)
    is_around n = elim (same_nat v n) [
      | inl e ↦ inl (inl e)
      | inr d ↦ elim (find ℕ_discrete n A) [
        | inl f ↦ inl (inr (inl f))
        | inr a ↦ elim (find ℕ_discrete n B) [
          | inl f ↦ inl (inr (inr f))
          | inr b ↦ inr (
              let c = one_other n v (λ e. d (sym e)) in
              let e = no_visit n A a in
              let f = no_visit n B b in
              omega arith)
        ]
      ]
    ]

    module _ (x : ℕ) (leaves : class u.node u.enter ≢ class u.node x) where
      -- u is entered by A and left by q, entered by q and left by B, or entered by B and left by q
      abbrev A_to_q : Passage ℕ
      A_to_q = record { node = u.node; enter = u.enter; leave = x }

      abbrev q_to_B : Passage ℕ
      q_to_B = record { node = u.node; enter = x; leave = u.leave }

      abbrev B_to_q : Passage ℕ
      B_to_q = record { node = u.node; enter = u.leave; leave = x }

      no_cusp : (one_if (class u.node u.enter) (class u.node x) ≡ 0) × (one_if (class u.node x) (class u.node u.leave) ≡ 0) × (one_if (class u.node u.leave) (class u.node x) ≡ 0)
      no_cusp = (
        one_other (class u.node u.enter) (class u.node x) leaves,
        one_other (class u.node x) (class u.node u.leave) (λ e. leaves (cusp ∙ sym e)),
        one_other (class u.node u.leave) (class u.node x) (λ e. leaves (cusp ∙ e)),
      )

      module _ (q : List (Passage ℕ)) (crossing_q : cusps o q ≡ 0) (apart : (n : ℕ) → around n + one_if n u.node + visits n q ≤ room t n) where
        -- it reaches v
        to_start : (c : ℕ) → Way o (u.node, x) q (v, c) → HasCircleIn o t
        to_start c way_q = elim (same_nat (class v c) (class v i)) [
          | inr differ ↦ circle o t v i c (A ++ A_to_q ∷ q) (way_join o (v, i) (v, c) A A_to_q q way_A way_q) differ
              (let a = cusps_join o A (A_to_q ∷ q) in let b = no_cusp.0 in omega arith)
              (λ n. let a = apart n in let b = visits_join n A (A_to_q ∷ q) in omega arith)
          | inl e ↦ fewer c j (back q ++ q_to_B ∷ B)
              (record {
                way = way_join o (v, c) (v, j) (back q) q_to_B B (way_back o (u.node, x) (v, c) q way_q) way_B;
                changes = λ f. changes (sym e ∙ f);
                apart = λ n. let a = apart n in let b = visits_join n (back q) (q_to_B ∷ B) in let d = visits_back n q in omega arith;
              })
              e
              (let a = cusps_join o (back q) (q_to_B ∷ B) in let b = no_cusp.1 in let d = cusps_back o q in omega arith)
        ]

        -- it reaches a node of A
        module _ (w c : ℕ) (way : Way o (u.node, x) q (w, c)) (f : Found w A) where
          cusps_A : cusps o A ≡ cusps o f.before + cusps o (f.here ∷ f.after)
          cusps_A = ap (cusps o) f.whole ∙ cusps_join o f.before (f.here ∷ f.after)

          visits_A : (n : ℕ) → visits n A ≡ visits n f.before + visits n (f.here ∷ f.after)
          visits_A n = ap (visits n) f.whole ∙ visits_join n f.before (f.here ∷ f.after)

          abbrev turned_A : Passage ℕ
          turned_A = record { node = f.here.node; enter = f.here.enter; leave = c }

          to_A : HasCircleIn o t
          to_A =
              let way_q : Way o (u.node, x) q (f.here.node, c) = subst (λ z. Way o (u.node, x) q (z, c)) f.same way in
              let ways = way_to o (v, i) (entered u) f.before f.here f.after (subst (λ z. Way o (v, i) z (entered u)) f.whole way_A) in
              let a = cusps_A in
              elim (same_nat (class f.here.node c) (class f.here.node f.here.leave)) [
                | inr differ ↦ circle o t f.here.node f.here.leave c (f.after ++ A_to_q ∷ q) (way_join o (left f.here) (f.here.node, c) f.after A_to_q q ways.1 way_q) differ
                    (let b = cusps_join o f.after (A_to_q ∷ q) in let d = no_cusp.0 in omega arith)
                    (λ n. let b = apart n in let d = visits_join n f.after (A_to_q ∷ q) in let g = visits_A n in omega arith)
                | inl e ↦ fewer i j (f.before ++ turned_A ∷ (back q ++ q_to_B ∷ B))
                    (record {
                      way = way_join o (v, i) (v, j) f.before turned_A (back q ++ q_to_B ∷ B) ways.0 (way_join o (f.here.node, c) (v, j) (back q) q_to_B B (way_back o (u.node, x) (f.here.node, c) q way_q) way_B);
                      changes = changes;
                      apart = λ n.
                          let b = apart n in
                          let d = visits_join n f.before (turned_A ∷ (back q ++ q_to_B ∷ B)) in
                          let g = visits_join n (back q) (q_to_B ∷ B) in
                          let h = visits_back n q in
                          let k = visits_A n in
                          omega arith;
                    })
                    refl
                    (let b = cusps_join o f.before (turned_A ∷ (back q ++ q_to_B ∷ B)) in
                    let d = cusps_join o (back q) (q_to_B ∷ B) in
                    let g = cusps_back o q in
                    let h = no_cusp.1 in
                    let same : one_if (class f.here.node f.here.enter) (class f.here.node c) ≡ one_if (class f.here.node f.here.enter) (class f.here.node f.here.leave) = ap (one_if (class f.here.node f.here.enter)) e in
                    omega arith)
              ]

        -- it reaches a node of B
        module _ (w c : ℕ) (way : Way o (u.node, x) q (w, c)) (f : Found w B) where
          visits_B : (n : ℕ) → visits n B ≡ visits n f.before + visits n (f.here ∷ f.after)
          visits_B n = ap (visits n) f.whole ∙ visits_join n f.before (f.here ∷ f.after)

          abbrev turned_B : Passage ℕ
          turned_B = record { node = f.here.node; enter = c; leave = f.here.leave }

          way_q : Way o (u.node, x) q (f.here.node, c)
          way_q = subst (λ z. Way o (u.node, x) q (z, c)) f.same way

          ways_B : Way o (left u) f.before (entered f.here) × Way o (left f.here) f.after (v, j)
          ways_B = way_to o (left u) (v, j) f.before f.here f.after (subst (λ z. Way o (left u) z (v, j)) f.whole way_B)

          -- by A, q and the rest of B
          by_rest : one_if (class f.here.node c) (class f.here.node f.here.leave) ≤ cusps o f.before + one_if (class f.here.node f.here.enter) (class f.here.node f.here.leave) → HasCircleIn o t
          by_rest most =
              fewer i j (A ++ A_to_q ∷ (q ++ turned_B ∷ f.after))
              (record {
                way = way_join o (v, i) (v, j) A A_to_q (q ++ turned_B ∷ f.after) way_A (way_join o (u.node, x) (v, j) q turned_B f.after way_q ways_B.1);
                changes = changes;
                apart = λ n.
                    let d = apart n in
                    let g = visits_join n A (A_to_q ∷ (q ++ turned_B ∷ f.after)) in
                    let h = visits_join n q (turned_B ∷ f.after) in
                    let k = visits_B n in
                    omega arith;
              })
              refl
              (let d = cusps_join o A (A_to_q ∷ (q ++ turned_B ∷ f.after)) in
              let g = cusps_join o q (turned_B ∷ f.after) in
              let h = no_cusp.0 in
              let k : cusps o B ≡ cusps o f.before + cusps o (f.here ∷ f.after) = ap (cusps o) f.whole ∙ cusps_join o f.before (f.here ∷ f.after) in
              omega arith)

          to_B : HasCircleIn o t
          to_B = elim (same_nat (class f.here.node c) (class f.here.node f.here.leave)) [
            | inr differ ↦ by_rest (let d = one_other (class f.here.node c) (class f.here.node f.here.leave) differ in omega arith)
            | inl e ↦
                let m = one_same (class f.here.node c) (class f.here.node f.here.leave) e in
                elim (same_nat (class f.here.node f.here.enter) (class f.here.node f.here.leave)) [
                  | inl k ↦ by_rest (let d = one_same (class f.here.node f.here.enter) (class f.here.node f.here.leave) k in omega arith)
                  | inr k ↦ elim (at_most 1 (cusps o f.before)) [
                    | inl some ↦ by_rest (omega arith)
                    | inr none ↦ circle o t f.here.node f.here.enter c (back f.before ++ B_to_q ∷ q)
                        (way_join o (entered f.here) (f.here.node, c) (back f.before) B_to_q q (way_back o (left u) (entered f.here) f.before ways_B.0) way_q)
                        (λ g. k (sym g ∙ e))
                        (let d = cusps_join o (back f.before) (B_to_q ∷ q) in let g = cusps_back o f.before in let h = no_cusp.2 in omega arith)
                        (λ n. let d = apart n in let g = visits_join n (back f.before) (B_to_q ∷ q) in let h = visits_back n f.before in let k = visits_B n in omega arith)
                  ]
                ]
          ]

        comes_back : (w c : ℕ) → Way o (u.node, x) q (w, c) → IsAround w → HasCircleIn o t
        comes_back w c way (inl e) = to_start c (subst (λ z. Way o (u.node, x) q (z, c)) (sym e) way)
        comes_back w c way (inr (inl f)) = to_A w c way f
        comes_back w c way (inr (inr f)) = to_B w c way f

      -- the walk q so far is apart from the closed walk, and so is all of it, if there is no circle
      stays_apart : (q : List (Passage ℕ)) (from : ℕ × ℕ) (rest : List (Passage ℕ)) (w c : ℕ) → ((to : ℕ × ℕ) → Wire o from to → Way o (u.node, x) q to) → Way o from rest (w, c) → cusps o q ≡ 0 → cusps o rest ≡ 0 →
          ((n : ℕ) → around n + one_if n u.node + visits n q ≤ room t n) → ((n : ℕ) → one_if n u.node + visits n q + visits n rest + one_if n w ≤ room t n) → HasCircleIn o t ⊎ ((n : ℕ) → around n + one_if n u.node + visits n q + visits n rest + one_if n w ≤ room t n)
      stays_apart q from [] w c reach way free free' apart own = elim (is_around w) [
        | inl h ↦ inl (comes_back q free apart w c (reach (w, c) way) h)
        | inr none ↦ inr (λ n. elim (same_nat n w) [
          | inl e ↦ let a : around n ≡ 0 = ap around e ∙ none in let b = own n in omega arith
          | inr d ↦ let a = one_other n w d in let b = apart n in omega arith
        ])
      ]
      stays_apart q from (p ∷ ps) w c reach way free free' apart own = elim (is_around p.node) [
        | inl h ↦ inl (comes_back q free apart p.node p.enter (reach (entered p) way.0) h)
        | inr none ↦
            let next : HasCircleIn o t ⊎ ((n : ℕ) → around n + one_if n u.node + visits n (q ++ p ∷ []) + visits n ps + one_if n w ≤ room t n) =
            stays_apart (q ++ p ∷ []) (left p) ps w c (λ to wire. way_join o (u.node, x) to q p [] (reach (entered p) way.0) wire) way.3
            (let a = cusps_join o q (p ∷ []) in omega arith) (omega arith)
            (λ n. let a = visits_join n q (p ∷ []) in elim (same_nat n p.node) [
              | inl e ↦ let b : around n ≡ 0 = ap around e ∙ none in let d = own n in omega arith
              | inr d ↦ let b = one_other n p.node d in let e = apart n in omega arith
            ])
            (λ n. let a = visits_join n q (p ∷ []) in let b = own n in omega arith) in
            elim next [ inl r ↦ inl r | inr all ↦ inr (λ n. let a = visits_join n q (p ∷ []) in let b = all n in omega arith) ]
      ]

  -- ---- from one node to the next

  -- walks without a cusp that leave v by another class than this one end in r
  abbrev LeadInto : ℕ → ℕ → (ℕ → Bool) → Type 0
  LeadInto v k r = (x : ℕ) (ps : List (Passage ℕ)) (w c : ℕ) → Path v x ps w c → class v x ≢ k → HasCircleIn o t ⊎ IsIn w r

  module _ (each : (v : ℕ) → IsIn v t → (i : ℕ) × (j : ℕ) × (ps : List (Passage ℕ)) × Cycle v i j ps) where
    module _ (v k : ℕ) (r : ℕ → Bool) (leads : LeadInto v k r) (next : (u l : ℕ) → IsIn u t → IsIn u r → LeadInto u l (less r u) → HasCircleIn o t) where
      -- a closed walk that leaves v by another class than k, with its first cusp, if one with fewer cusps gives a circle
      module _ (i j : ℕ) (ps : List (Passage ℕ)) (c : Cycle v i j ps) (differ : class v i ≢ k) (f : FirstCusp o ps)
          (fewer : (i' j' : ℕ) (qs : List (Passage ℕ)) → Cycle v i' j' qs → class v i' ≡ class v i → cusps o qs < cusps o ps → HasCircleIn o t) where
        ways : Way o (v, i) f.before (entered f.here) × Way o (left f.here) f.after (v, j)
        ways = way_to o (v, i) (v, j) f.before f.here f.after (subst (λ z. Way o (v, i) z (v, j)) f.whole c.way)

        all_apart : (n : ℕ) → one_if n v + visits n f.before + one_if n f.here.node + visits n f.after ≤ room t n
        all_apart n = let a = c.apart n in let b = ap (visits n) f.whole in let d = visits_join n f.before (f.here ∷ f.after) in omega arith

        past : cusps o ps ≡ suc (cusps o f.after)
        past =
            let a = ap (cusps o) f.whole in
            let b = cusps_join o f.before (f.here ∷ f.after) in
            let d = one_same (class f.here.node f.here.enter) (class f.here.node f.here.leave) f.cusp in
            let e = f.crossing in
            omega arith

        -- a walk continues from the cusp as one from v, by A
        through : (x : ℕ) (qs : List (Passage ℕ)) (w d : ℕ) → Path f.here.node x qs w d → class f.here.node x ≢ class f.here.node f.here.enter → HasCircleIn o t ⊎ (IsIn w r × (w ≢ f.here.node))
        through x qs w d path other =
            elim (stays_apart v i j f.before f.here f.after c.changes ways.0 ways.1 f.crossing f.cusp
            (λ i' j' rs c' same most. fewer i' j' rs c' same (let a = past in omega arith))
            x (λ e. other (sym e)) [] (f.here.node, x) qs w d (λ to wire. wire) path.way refl path.crossing
            (λ n. let a = all_apart n in omega arith) (λ n. let a = path.apart n in omega arith)) [
              | inl found ↦ inl found
              | inr all ↦
                  let here : Passage ℕ = record { node = f.here.node; enter = f.here.enter; leave = x } in
                  let whole : Path v i (f.before ++ here ∷ qs) w d = record {
                    way = way_join o (v, i) (w, d) f.before here qs ways.0 path.way;
                    crossing =
                        let a = cusps_join o f.before (here ∷ qs) in
                        let e = f.crossing in
                        let g = path.crossing in
                        let h = one_other (class f.here.node f.here.enter) (class f.here.node x) (λ e. other (sym e)) in
                        omega arith;
                    apart = λ n. let a = all n in let e = visits_join n f.before (here ∷ qs) in omega arith;
                  } in
                  let new : w ≢ f.here.node = λ e. let a = path.apart w in let g = one_same w w refl in let h = one_same w f.here.node e in let m = room_most t w in omega arith in
                  elim (leads i (f.before ++ here ∷ qs) w d whole differ) [ inl found ↦ inl found | inr into ↦ inr (into, new) ]
            ]

        from_cusp : HasCircleIn o t
        from_cusp = elim (leads i f.before f.here.node f.here.enter (record { way = ways.0; crossing = f.crossing; apart = λ n. let a = all_apart n in omega arith }) differ) [
          | inl found ↦ found
          | inr into ↦ next f.here.node (class f.here.node f.here.enter)
              (is_in t f.here.node (let a = all_apart f.here.node in let b = one_same f.here.node f.here.node refl in omega arith)) into
              (λ x qs w d path other. elim (through x qs w d path other) [ inl found ↦ inl found | inr h ↦ inr (less_kept r f.here.node w h.1 h.0) ])
        ]

      -- any such walk with fewer than b cusps
      from_cycle : (b i j : ℕ) (ps : List (Passage ℕ)) → Cycle v i j ps → class v i ≢ k → cusps o ps < b → HasCircleIn o t
      from_cycle zero i j ps c differ l = absurd (omega arith)
      from_cycle (suc b) i j ps c differ l = elim (first_cusp o ps) [
        | inl none ↦ circle o t v i j ps c.way (λ e. c.changes (sym e)) none c.apart
        | inr f ↦ from_cusp i j ps c differ f (λ i' j' qs c' same most. from_cycle b i' j' qs c' (λ e. differ (sym same ∙ e)) (omega arith))
      ]

      -- the node has a closed walk, and one of its two ends is of another class than k
      from_node : IsIn v t → HasCircleIn o t
      from_node here = go (each v here)
        where
          go : (i : ℕ) × (j : ℕ) × (ps : List (Passage ℕ)) × Cycle v i j ps → HasCircleIn o t
          go c = elim (same_nat (class v c.0) k) [
            | inr d ↦ from_cycle (suc (cusps o c.2)) c.0 c.1 c.2 c.3 d (omega arith)
            | inl e ↦ from_cycle (suc (cusps o (back c.2))) c.1 c.0 (back c.2) (cycle_back v c.0 c.1 c.2 c.3) (λ g. c.3.changes (e ∙ sym g)) (omega arith)
          ]

    -- on to the first cusp, and to the first cusp of its closed walk, and so on: r has fewer nodes each time
    climb : (b : ℕ) → ((n : ℕ) → IsIn n t → n < b) → (s v k : ℕ) (r : ℕ → Bool) → count r b ≤ s → IsIn v t → LeadInto v k r → HasCircleIn o t
    climb b below zero v k r most here leads =
        from_node v k r leads (λ u l in_t in_r on. let a = count_less r (less r u) (less_in r u) u in_r (less_itself r u) b (below u in_t) in absurd (omega arith)) here
    climb b below (suc s) v k r most here leads =
        from_node v k r leads (λ u l in_t in_r on. climb b below s u l (less r u) (let a = count_less r (less r u) (less_in r u) u in_r (less_itself r u) b (below u in_t) in omega arith) in_t on) here

    -- if each node of the set has such a closed walk, the set has a crossing circle
    pub has_circle : (b : ℕ) → ((n : ℕ) → IsIn n t → n < b) → (v : ℕ) → IsIn v t → HasCircleIn o t
    has_circle b below v here =
        climb b below (count t b) v 0 t (omega arith) here
        (λ x ps w c path differ. inr (is_in t w (let a = path.apart w in let e = one_same w w refl in omega arith)))
