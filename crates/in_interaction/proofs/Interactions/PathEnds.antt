-- Each point that stays is joined to a point.
use Rattle.std.proofs.Common.{◌≡◌, ◌≢◌, ◌⊎◌, ◌+◌, ◌*◌, ◌-◌, ◌≤◌, ◌<◌, ℕ, zero, suc, Bool, true, false, cond, Option, Some, IsSomeAnd, List, [], ◌∷◌, length, refl, sym, subst, ap, inl, inr, ◌∙◌, arith, lt-ltb, ltb-true, ltb-false, le-ltb}
use mathlib.Core.HLevel.{Discrete}
use Rattle.std.specs.List.{AllByRecursion}
use Rattle.std.proofs.lemmas.Option.{same_Some}
use Rattle.in_base.specs.Graphs.{Passage, AreApart}
use Rattle.in_net.specs.Nets.{Point, Port, Free, Signature, Net, IsPoint, IsNet}
use Rattle.in_base.specs.Lists.{IsAmong}
use Rattle.in_net.specs.Interactions.{Redex, IsRedex, Side, Outer, Inner, other, Alternates, wire_of, IsOfPair, AreJoined, IsNaming, of_first, end_agent, end_place}
use Rattle.in_interaction.proofs.Interactions.Paths.{other_twice}
use Rattle.in_net.proofs.Public.{end_has, end_of_pair, not_pair, stands_one}
use Rattle.in_interaction.proofs.Interactions.Alternating.{has_value, wire_back, one_wire}
use Rattle.in_interaction.proofs.Interactions.Ahead.{few}

-- the boundary ends below m, each with both sides
states : ℕ → List (ℕ × Side)
states zero = []
states (suc m) = (m, Outer) ∷ (m, Inner) ∷ states m

less_or_same : (c m : ℕ) → c < suc m → (c ≡ m) ⊎ (c < m)
less_or_same c m h = grind arith

among_states : (m c : ℕ) (s : Side) → c < m → IsAmong (c, s) (states m)
unfolding states
among_states zero c s h = absurd (omega arith)
among_states (suc m) c s h = go s (less_or_same c m h) (λ k. among_states m c s k)
  where
    go : (t : Side) → (c ≡ m) ⊎ (c < m) → (c < m → IsAmong (c, t) (states m)) → IsAmong (c, t) ((m, Outer) ∷ (m, Inner) ∷ states m)
    go Outer (inl e) on = inl (ap (λ c. (c, Outer)) (sym e))
    go Inner (inl e) on = inr (inl (ap (λ c. (c, Inner)) (sym e)))
    go Outer (inr k) on = inr (inr (on k))
    go Inner (inr k) on = inr (inr (on k))

states_many : (m : ℕ) → length (states m) ≡ 2 * m
unfolding states
states_many zero = refl
states_many (suc m) = let h : length (states m) ≡ 2 * m = states_many m in omega arith

module _ {A B : Type 0} (sig : Signature) (n : Net A) (x : Redex A B) (name : B → A) (net : IsNet sig n) (inside : IsNet sig x.member) (redex : IsRedex sig n x) (naming : IsNaming n x name) (same : Discrete A) where
  abbrev many : ℕ
  many = sig.arity x.first + sig.arity x.second

  abbrev pub pt : ℕ → Point A
  pt c = Port (end_agent sig x c) (end_place sig x c)

  pt_first : (j : ℕ) → j < sig.arity x.first → Port x.one (suc j) ≡ pt j
  pt_first j h = go (of_first sig x j) (lt-ltb j (sig.arity x.first) h)
    where
      go : (b : Bool) → b ≡ true → Port x.one (suc j) ≡ Port (cond b x.one x.two) (cond b (suc j) (suc (j - sig.arity x.first)))
      go true h = refl
      go false h = cc

  pt_second : (j : ℕ) → Port x.two (suc j) ≡ pt (sig.arity x.first + j)
  pt_second j = go (of_first sig x (sig.arity x.first + j)) (le-ltb (sig.arity x.first + j) (sig.arity x.first) (omega arith))
    where
      go : (b : Bool) → b ≡ false → Port x.two (suc j) ≡ Port (cond b x.one x.two) (cond b (suc (sig.arity x.first + j)) (suc (sig.arity x.first + j - sig.arity x.first)))
      go true h = cc
      go false h = let e : j ≡ sig.arity x.first + j - sig.arity x.first = omega arith in ap (λ j. Port x.two (suc j)) e

  -- the next point outside, from a point that is no principal port of the pair
  pub outer_next : (u f : Point A) → n.partner u ≡ Some f → u ≢ Port x.one 0 → u ≢ Port x.two 0 → (IsOfPair x f → ⊥) ⊎ ((d : ℕ) × (d < sig.arity x.first + sig.arity x.second) × (f ≡ pt d))
  outer_next u (Free k) w one two = inl (λ h. h)
  outer_next u (Port y i) w one two = go (same y x.one) (same y x.two) i w (net.points (Port y i) u (net.back u (Port y i) w))
    where
      room : (o : Option ℕ) (s i : ℕ) → o ≡ Some s → IsSomeAnd o (λ s. i ≤ sig.arity s) → i ≤ sig.arity s
      room o s i e h = subst (λ o. IsSomeAnd o (λ s. i ≤ sig.arity s)) e h

      go : Dec (y ≡ x.one) → Dec (y ≡ x.two) → (i : ℕ) → n.partner u ≡ Some (Port y i) → IsPoint sig n (Port y i) → (IsOfPair x (Port y i) → ⊥) ⊎ ((d : ℕ) × (d < sig.arity x.first + sig.arity x.second) × (Port y i ≡ pt d))
      go (yes e) k zero w h =
          let back : Some u ≡ Some (Port x.two 0) = sym (net.back u (Port y 0) w) ∙ ap (λ y. n.partner (Port y 0)) e ∙ redex.active in
          absurd (two (same_Some u (Port x.two 0) back))
      go (yes e) k (suc j) w h =
          let r : suc j ≤ sig.arity x.first = room (n.symbol y) x.first (suc j) (ap n.symbol e ∙ redex.one) h in
          inr (j, omega arith, ap (λ y. Port y (suc j)) e ∙ pt_first j r)
      go (no d) (yes e) zero w h =
          let back : Some u ≡ Some (Port x.one 0) = sym (net.back u (Port y 0) w) ∙ ap (λ y. n.partner (Port y 0)) e ∙ net.back (Port x.one 0) (Port x.two 0) redex.active in
          absurd (one (same_Some u (Port x.one 0) back))
      go (no d) (yes e) (suc j) w h =
          let r : suc j ≤ sig.arity x.second = room (n.symbol y) x.second (suc j) (ap n.symbol e ∙ redex.two) h in
          inr (sig.arity x.first + j, omega arith, ap (λ y. Port y (suc j)) e ∙ pt_second j)
      go (no d) (no e) i w h = inl (λ k. elim k [ inl a ↦ d a | inr b ↦ e b ])

  -- a boundary end has a wire on each side
  end_point : (c : ℕ) → c < sig.arity x.first + sig.arity x.second → IsPoint sig n (pt c)
  end_point c h =
      subst (λ o. IsSomeAnd o (λ s. end_place sig x c ≤ sig.arity s)) (sym (end_has sig n x net inside redex c))
      (go (of_first sig x c) (λ e. ltb-true c (sig.arity x.first) e) (λ e. ltb-false c (sig.arity x.first) e))
    where
      go : (b : Bool) → (b ≡ true → c < sig.arity x.first) → (b ≡ false → sig.arity x.first ≤ c) → cond b (suc c) (suc (c - sig.arity x.first)) ≤ sig.arity (cond b x.first x.second)
      go true t f = t refl
      go false t f = let k : sig.arity x.first ≤ c = f refl in omega arith

  pub outer_at : (c : ℕ) → c < sig.arity x.first + sig.arity x.second → (f : Point A) × (n.partner (pt c) ≡ Some f)
  outer_at c h = has_value (n.partner (pt c)) (net.joined (pt c) (end_point c h))

  inner_at : (c : ℕ) → c < sig.arity x.first + sig.arity x.second → (q : Point B) × (x.member.partner (Free c) ≡ Some q)
  inner_at c h = has_value (x.member.partner (Free c)) (inside.joined (Free c) (subst (λ m. c < m) (sym redex.ends) h))

  pub not_principal : (c : ℕ) (y : A) → pt c ≢ Port y 0
  not_principal c y = go (of_first sig x c)
    where
      go : (b : Bool) → Port (end_agent sig x c) (cond b (suc c) (suc (c - sig.arity x.first))) ≢ Port y 0
      go true = λ e. cc
      go false = λ e. cc

  -- the boundary ends that a path from a point that stays goes through, the last one first
  abbrev Trail : List (Passage (ℕ × Side)) → Type 0
  Trail [] = ⊥
  Trail (p ∷ []) = (u : Point A) × (IsOfPair x u → ⊥) × wire_of sig n x name (other p.node.1) u (pt p.node.0)
  Trail (p ∷ q ∷ ps) = wire_of sig n x name q.node.1 (pt q.node.0) (pt p.node.0) × (p.node.1 ≡ other q.node.1) × Trail (q ∷ ps)

  pub pair_at : (c : ℕ) → IsOfPair x (pt c)
  pair_at c = end_of_pair sig n x name net inside redex naming c

  -- one boundary end leads to the next by one side
  same_end : (c d : ℕ) → c < sig.arity x.first + sig.arity x.second → d < sig.arity x.first + sig.arity x.second → pt c ≡ pt d → c ≡ d
  same_end c d h k e =
      let w : ◌≡◌ {A = Point B} (Free c) (Free d) = stands_one sig n x name net inside redex naming (Free c) (Free d) (subst (λ m. c < m) (sym redex.ends) h) (subst (λ m. d < m) (sym redex.ends) k) e in
      cc

  other_same : (s t : Side) → other s ≡ other t → s ≡ t
  other_same s t h = sym (other_twice s) ∙ ap other h ∙ other_twice t

  abbrev InRange : Passage (ℕ × Side) → Type 0
  InRange p = p.node.0 < sig.arity x.first + sig.arity x.second

  -- a wire back from a boundary end leads to one point
  only_from : (s : Side) (u v : Point A) (d e : ℕ) → d ≡ e → wire_of sig n x name s u (pt d) → wire_of sig n x name s v (pt e) → u ≡ v
  only_from s u v d e h w k =
      one_wire sig n x name net inside redex naming s (pt e) u v (wire_back sig n x name net inside s u (pt e) (subst (λ d. wire_of sig n x name s u (pt d)) h w)) (wire_back sig n x name net inside s v (pt e) k)

  -- the one that follows the newest isn't in the trail
  fresh : (c : ℕ) (s : Side) (d : ℕ) (p : Passage (ℕ × Side)) (ps : List (Passage (ℕ × Side))) → c < sig.arity x.first + sig.arity x.second → AllByRecursion InRange (p ∷ ps) → Trail (p ∷ ps) → wire_of sig n x name s (pt c) (pt d) → AllByRecursion (λ q. (c, s) ≢ q.node) ps → AllByRecursion (λ q. (d, other s) ≢ q.node) (p ∷ ps)
  fresh c s d p [] hc range trail w apart = (
    (λ e.
        let side : other p.node.1 ≡ s = sym (ap (λ r. other r.1) e) ∙ other_twice s in
        let u : trail.0 ≡ pt c = only_from s trail.0 (pt c) p.node.0 d (sym (ap (λ r. r.0) e)) (subst (λ t. wire_of sig n x name t trail.0 (pt p.node.0)) side trail.2) w in
        trail.1 (subst (IsOfPair x) (sym u) (pair_at c))),
    tt,
  )
  fresh c s d p (q ∷ ps) hc range trail w apart = (
    (λ e.
        let side : q.node.1 ≡ s = other_same q.node.1 s (sym trail.1 ∙ sym (ap (λ r. r.1) e)) in
        let u : pt q.node.0 ≡ pt c = only_from s (pt q.node.0) (pt c) p.node.0 d (sym (ap (λ r. r.0) e)) (subst (λ t. wire_of sig n x name t (pt q.node.0) (pt p.node.0)) side trail.0) w in
        let number : c ≡ q.node.0 = same_end c q.node.0 hc range.1.0 (sym u) in
        apart.0 (λ i. (number i, sym side i))),
    fresh c s d q ps hc range.1 trail.2 w apart.1,
  )

  -- a path on from a boundary end to a point that is of no pair
  abbrev pub Ended : ℕ → Side → ℕ → Type 0
  Ended k s c = (es : List (Point A)) × (v : Point A) × (IsOfPair x v → ⊥) × Alternates (wire_of sig n x name) (IsOfPair x) s (pt c) es v × (length es ≤ k)

  at : ℕ → Side → Passage (ℕ × Side)
  at c s = record { node = (c, s); enter = 0; leave = 0 }

  -- the next point, on either side
  next : (s : Side) (c : ℕ) → c < sig.arity x.first + sig.arity x.second → ((v : Point A) × (IsOfPair x v → ⊥) × wire_of sig n x name s (pt c) v) ⊎ ((d : ℕ) × (d < sig.arity x.first + sig.arity x.second) × wire_of sig n x name s (pt c) (pt d))
  next Outer c h =
      let f = outer_at c h in
      elim (outer_next (pt c) f.0 f.1 (not_principal c x.one) (not_principal c x.two)) [
        | inl np ↦ inl (f.0, np, f.1)
        | inr d ↦ inr (d.0, d.1, f.1 ∙ ap (λ v. Some v) d.2)
      ]
  next Inner c h = go (inner_at c h).0 (inner_at c h).1
    where
      go : (q : Point B) → x.member.partner (Free c) ≡ Some q → ((v : Point A) × (IsOfPair x v → ⊥) × wire_of sig n x name Inner (pt c) v) ⊎ ((d : ℕ) × (d < sig.arity x.first + sig.arity x.second) × wire_of sig n x name Inner (pt c) (pt d))
      go (Port k i) e =
          inl (Port (name k) i, not_pair sig n x name net inside redex naming k i (inside.points (Port k i) (Free c) (inside.back (Free c) (Port k i) e)), (Free c, Port k i, refl, refl, e))
      go (Free d) e =
          let h : d < length x.member.free = inside.points (Free d) (Free c) (inside.back (Free c) (Free d) e) in
          inr (d, subst (λ m. d < m) redex.ends h, (Free c, Free d, refl, refl, e))

  walk : (k : ℕ) (s : Side) (c : ℕ) (ps : List (Passage (ℕ × Side))) → AllByRecursion InRange (record { node = (c, s); enter = 0; leave = 0 } ∷ ps) → Trail (record { node = (c, s); enter = 0; leave = 0 } ∷ ps) → AreApart (record { node = (c, s); enter = 0; leave = 0 } ∷ ps) → Ended k s c ⊎ ((qs : List (Passage (ℕ × Side))) × (length qs ≡ k + suc (length ps)) × AllByRecursion InRange qs × AreApart qs)
  walk zero s c ps range trail apart = inr (record { node = (c, s); enter = 0; leave = 0 } ∷ ps, omega arith, range, apart)
  walk (suc k) s c ps range trail apart = go (next s c range.0) (λ d h w.
      walk k (other s) d (record { node = (c, s); enter = 0; leave = 0 } ∷ ps) (h, range) (w, refl, trail)
      (fresh c s d (record { node = (c, s); enter = 0; leave = 0 }) ps range.0 range trail w apart.0, apart))
    where
      go : ((v : Point A) × (IsOfPair x v → ⊥) × wire_of sig n x name s (pt c) v) ⊎ ((d : ℕ) × (d < sig.arity x.first + sig.arity x.second) × wire_of sig n x name s (pt c) (pt d)) → ((d : ℕ) → d < sig.arity x.first + sig.arity x.second → wire_of sig n x name s (pt c) (pt d) → Ended k (other s) d ⊎ ((qs : List (Passage (ℕ × Side))) × (length qs ≡ k + suc (suc (length ps))) × AllByRecursion InRange qs × AreApart qs)) → Ended (suc k) s c ⊎ ((qs : List (Passage (ℕ × Side))) × (length qs ≡ suc k + suc (length ps)) × AllByRecursion InRange qs × AreApart qs)
      go (inl v) on = inl ([], v.0, v.1, v.2, omega arith)
      go (inr d) on =
          elim (on d.0 d.1 d.2) [
            | inl r ↦ let l = r.4 in inl (pt d.0 ∷ r.0, r.1, r.2, (d.2, pair_at d.0, r.3), omega arith)
            | inr r ↦ let h : length r.0 ≡ k + suc (suc (length ps)) = r.1 in inr (r.0, omega arith, r.2, r.3)
          ]

  all_among : (ps : List (Passage (ℕ × Side))) → AllByRecursion InRange ps → AllByRecursion (λ p. IsAmong p.node (states (sig.arity x.first + sig.arity x.second))) ps
  all_among [] h = tt
  all_among (p ∷ ps) h = (among_states (sig.arity x.first + sig.arity x.second) p.node.0 p.node.1 h.0, all_among ps h.1)

  -- a path that has reached a boundary end from a point that stays ends
  pub ends : (s : Side) (d : ℕ) → d < sig.arity x.first + sig.arity x.second → (u : Point A) → (IsOfPair x u → ⊥) → wire_of sig n x name s u (pt d) → Ended (2 * (sig.arity x.first + sig.arity x.second)) (other s) d
  ends s d h u np w =
      elim (walk (2 * (sig.arity x.first + sig.arity x.second)) (other s) d [] (h, tt) (u, np, subst (λ t. wire_of sig n x name t u (pt d)) (sym (other_twice s)) w) (tt, tt)) [
        | inl r ↦ r
        | inr r ↦
            let most : length r.0 ≤ length (states (sig.arity x.first + sig.arity x.second)) = few r.0 (states (sig.arity x.first + sig.arity x.second)) r.3 (all_among r.0 r.2) in
            let all : length (states (sig.arity x.first + sig.arity x.second)) ≡ 2 * (sig.arity x.first + sig.arity x.second) = states_many (sig.arity x.first + sig.arity x.second) in
            let long : length r.0 ≡ 2 * (sig.arity x.first + sig.arity x.second) + 1 = r.1 in
            absurd (omega arith)
      ]

  joined_by : (s : Side) (u : Point A) → (IsOfPair x u → ⊥) → ((v : Point A) × (IsOfPair x v → ⊥) × wire_of sig n x name s u v) ⊎ ((d : ℕ) × (d < sig.arity x.first + sig.arity x.second) × wire_of sig n x name s u (pt d)) → (v : Point A) × AreJoined sig n x name u v
  joined_by s u np (inl v) = (v.0, (np, v.1, (s, [], v.2)))
  joined_by s u np (inr d) =
      let r = ends s d.0 d.1 u np d.2 in
      (r.1, (np, r.2, (s, pt d.0 ∷ r.0, (d.2, pair_at d.0, r.3))))

  pub joined_outer : (u f : Point A) → (IsOfPair x u → ⊥) → n.partner u ≡ Some f → (v : Point A) × AreJoined sig n x name u v
  joined_outer u f np w =
      joined_by Outer u np (elim (outer_next u f w (λ e. np (subst (IsOfPair x) (sym e) (inl refl))) (λ e. np (subst (IsOfPair x) (sym e) (inr refl)))) [
        | inl nf ↦ inl (f, nf, w)
        | inr d ↦ inr (d.0, d.1, w ∙ ap (λ v. Some v) d.2)
      ])

  pub joined_inner : (k : B) (i : ℕ) (q : Point B) → x.member.partner (Port k i) ≡ Some q → (v : Point A) × AreJoined sig n x name (Port (name k) i) v
  joined_inner k i (Port l j) e =
      joined_by Inner (Port (name k) i) (not_pair sig n x name net inside redex naming k i (inside.points (Port k i) (Port l j) e))
      (inl (Port (name l) j, not_pair sig n x name net inside redex naming l j (inside.points (Port l j) (Port k i) (inside.back (Port k i) (Port l j) e)), (Port k i, Port l j, refl, refl, e)))
  joined_inner k i (Free d) e =
      let h : d < length x.member.free = inside.points (Free d) (Port k i) (inside.back (Port k i) (Free d) e) in
      joined_by Inner (Port (name k) i) (not_pair sig n x name net inside redex naming k i (inside.points (Port k i) (Free d) e))
      (inr (d, subst (λ m. d < m) redex.ends h, (Port k i, Free d, refl, refl, e)))
