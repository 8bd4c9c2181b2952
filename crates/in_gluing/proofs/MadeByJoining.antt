-- If the boundary ends are joined from the highest to the lowest, each new pair is made at the lowest end of its path.
use Rattle.std.proofs.Common.{◌≡◌, ◌≢◌, ◌⊎◌, ◌<◌, ◌≤◌, ℕ, zero, suc, true, Some, List, [], ◌∷◌, ◌++◌, length, reverse, slice_get, refl, sym, subst, ap, ◌∙◌, inl, inr, arith}
use Rattle.std.proofs.lemmas.List.{length-map, reverse-append}
use Rattle.std.proofs.lemmas.Option.{same_Some}
use Rattle.in_base.specs.Lists.{IsAmong}
use Rattle.in_symbols.specs.Tables.{Tables}
use Rattle.in_net.specs.declared.nets.AgentNo.{AgentNo}
use Rattle.in_net.specs.Interactions.{Redex, Side, PairPath, IsOfPair, redex_at}
use Rattle.in_net.specs.Nets.{Point, Port, Free, Signature, Net, net_of, signature_of}
use Rattle.in_net.specs.Parts.{Parts}
use Rattle.in_net.specs.Rules.{RuleParts}
use Rattle.in_interaction.specs.Made.{IsLowestEnd, IsMade}
use Rattle.in_interaction.proofs.Public.{end_once, pair_once, stays_as}
use Rattle.in_interaction.proofs.Public.Through as through
use Rattle.in_gluing.specs.Joining.{IsAtNumber, IsNeither, JoinsEnds}
use Rattle.in_gluing.specs.AsGluing.{boundary_port, old_and_new, ends_from, CanStep}
use Rattle.in_gluing.specs.EndByEnd.{outer_end, inner_end, HasJoined}
use Rattle.in_gluing.specs.MadeByJoining.{AreAtSides, JoinsAtLowestEnd, CanStepAt, ends_of, IsPairAtSides, PairsAreMadeWhereJoined, AreMadeFrom, NoneIsMadeFirst, OneMoreIsMade, NoMoreIsMade, AllMadeAreOverEnds}
use Rattle.in_gluing.proofs.AsGluing.{from_is, is_from}
use Rattle.in_gluing.proofs.Boundary.{Spot, In, part_of, link, unlink, port_in, in_port}
use Rattle.in_gluing.proofs.Points.{port_free}
use Rattle.in_gluing.proofs.Cutting.{join_exists}
use Rattle.in_gluing.proofs.EndNumbers.{number}
use Rattle.in_gluing.proofs.EndByEnd.{ends_are_joined_in_turn, ends_from_have_one_more}

module _ (sig : Signature) (n : Net ℕ) (x : Redex ℕ ℕ) (name : ℕ → ℕ) (site : CanStep sig n x name) where
  abbrev pt : ℕ → Point ℕ
  pt e = boundary_port sig x e

  abbrev Stays : Point ℕ → Type 0
  Stays u = IsOfPair x u → ⊥

  abbrev Passes : (ℕ → Type 0) → List (Point ℕ) → Type 0
  Passes P es = (d : ℕ) → IsAmong (pt d) es → P d

  -- a path through no boundary end below this one
  record PathFrom (e : ℕ) (u v : Point ℕ) : Type 0 where
    side : Side
    ends : List (Point ℕ)
    way : PairPath sig n x name side u ends v
    goes : Passes (λ d. e ≤ d) ends

  end_below : (s : Side) (u : Point ℕ) (es : List (Point ℕ)) (v : Point ℕ) → PairPath sig n x name s u es v → Passes (λ d. d < length x.member.free) es
  end_below s u es v w d i =
      let r = through.through_ends sig n x name site.net site.inside site.redex site.naming s u es v w (pt d) i in
      subst (λ k. k < length x.member.free) (sym (through.pt_same sig n x name site.net site.inside site.redex site.naming d r.0 r.2)) r.1

  -- ---- wires between ports, if the boundary ends from one on are joined

  module _ (e : ℕ) (m : Net ℕ) (h : HasJoined sig n x name (ends_from x e) m) where
    abbrev At : Spot → Point ℕ → Type 0
    At p u = IsAtNumber (number n x) (old_and_new name) p.0 p.1 u

    wire_of_path : (y i z j : ℕ) → Stays (Port y i) → Stays (Port z j) → PathFrom e (Port y i) (Port z j) → m.partner (Port y i) ≡ Some (Port z j)
    wire_of_path y i z j hy hz path =
        let all : Passes (λ d. ends_from x e d ≡ true) path.ends = λ d k. from_is x e d (path.goes d k) (end_below path.side (Port y i) path.ends (Port z j) path.way d k) in
        let l = link sig n x name h.rest site h.is_rest (ends_from x e) h.within path.side (Port y i) path.ends (Port z j) hy hz path.way all in
        let a = in_port sig n x name h.rest site h.is_rest l.one l.p y i hy l.at_one in
        let b = in_port sig n x name h.rest site h.is_rest l.two l.q z j hz l.at_two in
        (h.joins.wires (Port y i) (Port z j)).1 ((part_of l.one, l.p), (part_of l.two, l.q), at_port l.one l.p a.0 y i a.1 a.2, at_port l.two l.q b.0 z j b.1 b.2, l.linked)
      where
        at_port : (s : Side) (p : Point ℕ) (a y i : ℕ) → p ≡ Port a i → old_and_new name (part_of s) a ≡ y → At (part_of s, p) (Port y i)
        at_port s p a y i is named = subst (λ p. At (part_of s, p) (Port y i)) (sym is) (ap (λ (y : ℕ). Port y i) (sym named))

    -- the port of a numbered point
    numbered_port : (p : Spot) (y i : ℕ) (s : Side) (u : Point ℕ) → p.0 ≡ part_of s → At p (Port y i) → ((a k : ℕ) → p.1 ≡ Port a k → u ≡ Port (old_and_new name (part_of s) a) k) → u ≡ Port y i
    numbered_port p y i s u is at from = go p.1 refl (subst (λ k. IsAtNumber (number n x) (old_and_new name) k p.1 (Port y i)) is at)
      where
        go : (q : Point ℕ) → p.1 ≡ q → IsAtNumber (number n x) (old_and_new name) (part_of s) q (Port y i) → u ≡ Port y i
        go (Port a k) same at = from a k same ∙ sym at
        go (Free f) same at = absurd (port_free y i (number n x (part_of s, f)) at)

    path_of_wire : (y i z j : ℕ) → m.partner (Port y i) ≡ Some (Port z j) → PathFrom e (Port y i) (Port z j)
    path_of_wire y i z j w =
        let r = (h.joins.wires (Port y i) (Port z j)).0 w in
        let k = unlink sig n x name h.rest site h.is_rest (ends_from x e) h.within r.0 r.1 r.4 in
        let a : k.u ≡ Port y i = numbered_port r.0 y i k.one k.u k.is_one r.2 (λ a l same. port_in sig n x name h.rest site h.is_rest k.one a l k.u (subst (λ p. In sig n x name h.rest site h.is_rest k.one p k.u) same k.at_one)) in
        let b : k.v ≡ Port z j = numbered_port r.1 z j k.two k.v k.is_two r.3 (λ a l same. port_in sig n x name h.rest site h.is_rest k.two a l k.v (subst (λ p. In sig n x name h.rest site h.is_rest k.two p k.v) same k.at_two)) in
        record {
          side = k.one;
          ends = k.ends;
          way = subst (λ u. PairPath sig n x name k.one u k.ends (Port z j)) a (subst (λ v. PairPath sig n x name k.one k.u k.ends v) b k.way);
          goes = λ d i. (is_from x e d (k.goes d i)).0;
        }

  -- ---- at the next boundary end

  module _ (e : ℕ) (low : e < length x.member.free) (m : Net ℕ) (h : HasJoined sig n x name (ends_from x (suc e)) m) (y i z j : ℕ) (hy : Stays (Port y i)) (hz : Stays (Port z j)) where
    abbrev A : Point ℕ
    A = Free (outer_end n x e)

    abbrev B : Point ℕ
    B = Free (inner_end n x e)

    differ : outer_end n x e ≢ inner_end n x e
    differ k = omega (arith, k, low)

    joined : (w : Net ℕ) × JoinsEnds m (outer_end n x e) (inner_end n x e) w
    joined = let r = join_exists m (outer_end n x e) (inner_end n x e) differ h.leads_back in (r.0, r.1)

    after : HasJoined sig n x name (ends_from x e) joined.0
    after = ends_are_joined_in_turn sig n x name (ends_from x (suc e)) (ends_from x e) e m joined.0 site low h (ends_from_have_one_more x e low) joined.1

    is_port : (y i : ℕ) → IsNeither (outer_end n x e) (inner_end n x e) (Port y i)
    is_port y i = ((λ h. port_free y i (outer_end n x e) h), (λ h. port_free y i (inner_end n x e) h))

    -- between the two ports one path goes
    one_path : (s : Side) (es : List (Point ℕ)) → PairPath sig n x name s (Port y i) es (Port z j) → (t : Side) (fs : List (Point ℕ)) → PairPath sig n x name t (Port y i) fs (Port z j) → es ≡ fs
    one_path s es a t fs b = (through.one_way sig n x name site.net site.inside site.redex site.naming s t (Port y i) (Port z j) (Port z j) es fs hy hz hz a b).0

    at_sides : IsLowestEnd sig n x name e (Port y i) (Port z j) → AreAtSides n x e m (Port y i) (Port z j)
    at_sides l =
        let p = l.passed in
        let path : PathFrom e (Port y i) (Port z j) = record { side = p.0; ends = p.1; way = p.2; goes = λ d k. l.lowest d (p.0, p.1, p.2, k) } in
        let wire = wire_of_path e joined.0 after y i z j hy hz path in
        elim ((joined.1.wires (Port y i) (Port z j)).0 wire).2 [
          | inl w ↦ absurd (
              let q = path_of_wire (suc e) m h y i z j w in
              let high = q.goes e (subst (IsAmong (pt e)) (one_path p.0 p.1 p.2 q.side q.ends q.way) p.3) in
              omega (arith, high)
              )
          | inr o ↦ elim o [
            | inl w ↦ inl (h.leads_back.0 (Port y i) A w.0, w.1)
            | inr w ↦ inr (h.leads_back.0 (Port y i) B w.0, w.1)
          ]
        ]

    -- a path through this end and no lower one
    lowest_on : (s : Side) (es : List (Point ℕ)) → PairPath sig n x name s (Port y i) es (Port z j) → IsAmong (pt e) es → Passes (λ d. e ≤ d) es → IsLowestEnd sig n x name e (Port y i) (Port z j)
    lowest_on s es w here goes = record {
      passed = (s, es, w, here);
      lowest = λ d p. goes d (subst (IsAmong (pt d)) (one_path p.0 p.1 p.2 s es w) p.3);
    }

    -- the joint made the wire, so that its path goes through this end
    new_path : (k : ℕ) → m.partner (Port y i) ≡ Some (Free k) → joined.0.partner (Port y i) ≡ Some (Port z j) → IsLowestEnd sig n x name e (Port y i) (Port z j)
    new_path k before wire = go (through.lowest sig n x name site.net site.inside site.redex site.naming path.ends ends)
      where
        path : PathFrom e (Port y i) (Port z j)
        path = path_of_wire e joined.0 after y i z j wire

        ends : (p : Point ℕ) → IsAmong p path.ends → (d : ℕ) × (d < length x.member.free) × (p ≡ pt d)
        ends = through.through_ends sig n x name site.net site.inside site.redex site.naming path.side (Port y i) path.ends (Port z j) path.way

        -- otherwise it was there before
        old : Passes (λ d. suc e ≤ d) path.ends → ⊥
        old goes =
            let w = wire_of_path (suc e) m h y i z j hy hz (record { side = path.side; ends = path.ends; way = path.way; goes = goes }) in
            port_free z j k (same_Some (Port z j) (Free k) (sym w ∙ before))

        by : (c : ℕ) → IsAmong (pt c) path.ends → Passes (λ d. c ≤ d) path.ends → (e ≡ c) ⊎ (e < c) → IsLowestEnd sig n x name e (Port y i) (Port z j)
        by c here low (inl same) = lowest_on path.side path.ends path.way (subst (λ c. IsAmong (pt c) path.ends) (sym same) here) path.goes
        by c here low (inr less) = absurd (old (λ d k. (let a = low d k in omega (arith, a, less))))

        go : (path.ends ≡ []) ⊎ ((c : ℕ) × IsAmong (pt c) path.ends × Passes (λ d. c ≤ d) path.ends) → IsLowestEnd sig n x name e (Port y i) (Port z j)
        go (inl none) = absurd (old (λ d k. absurd (subst (IsAmong (pt d)) none k)))
        go (inr r) = by r.0 r.1 r.2 (let a = path.goes r.0 r.1 in let o : (e ≡ r.0) ⊎ (e < r.0) = grind (arith, a) in o)

    lowest_of : AreAtSides n x e m (Port y i) (Port z j) → IsLowestEnd sig n x name e (Port y i) (Port z j)
    lowest_of (inl w) =
        let near = h.leads_back.0 A (Port y i) w.0 in
        new_path (outer_end n x e) near ((joined.1.wires (Port y i) (Port z j)).1 (is_port y i, is_port z j, inr (inl (near, w.1))))
    lowest_of (inr w) =
        let near = h.leads_back.0 B (Port y i) w.0 in
        new_path (inner_end n x e) near ((joined.1.wires (Port y i) (Port z j)).1 (is_port y i, is_port z j, inr (inr (near, w.1))))

pub joins_at_lowest_end : JoinsAtLowestEnd
joins_at_lowest_end sig n x name e m y i z j site low h hy hz = (at_sides sig n x name site e low m h y i z j hy hz, lowest_of sig n x name site e low m h y i z j hy hz)

-- ---- pairs

pub pairs_are_made_where_joined : PairsAreMadeWhereJoined
pairs_are_made_where_joined t n r a b name e m site low h q = (to, from)
  where
    below : e < length (net_of r.member).free
    below = subst (λ k. e < k) (sym (length-map r.member.free (λ f. f.kind))) low

    to : IsMade t n r a b name e q → IsPairAtSides t n r a b name e m q
    to g = record {
      first = g.first;
      second = g.second;
      one = g.one;
      two = g.two;
      sides = (joins_at_lowest_end (signature_of t) (net_of n) (redex_at r a.0 b.0) name e m q.0.0 0 q.1.0 0 site below h (stays_as t n r a b name site.net site.inside site.redex site.naming q.0 g.first g.one) (stays_as t n r a b name site.net site.inside site.redex site.naming q.1 g.second g.two)).0 g.path;
      order = g.order;
    }

    from : IsPairAtSides t n r a b name e m q → IsMade t n r a b name e q
    from g = record {
      first = g.first;
      second = g.second;
      one = g.one;
      two = g.two;
      path = (joins_at_lowest_end (signature_of t) (net_of n) (redex_at r a.0 b.0) name e m q.0.0 0 q.1.0 0 site below h (stays_as t n r a b name site.net site.inside site.redex site.naming q.0 g.first g.one) (stays_as t n r a b name site.net site.inside site.redex site.naming q.1 g.second g.two)).1 g.sides;
      order = g.order;
    }

module _ (t : Tables) (n : Parts) (r : RuleParts) (a b : AgentNo) (name : ℕ → ℕ) (site : CanStepAt t n r a b name) where
  abbrev at : Redex ℕ ℕ
  at = redex_at r a.0 b.0

  -- a lowest end of a pair is a boundary end
  made_below : (e : ℕ) (q : AgentNo × AgentNo) → IsMade t n r a b name e q → e < ends_of r
  made_below e q h =
      let p = h.path.passed in
      subst (λ k. e < k) (length-map r.member.free (λ f. f.kind)) (end_below (signature_of t) (net_of n) at name site p.0 (Port q.0.0 0) p.1 (Port q.1.0 0) p.2 e p.3)

  -- ---- the pairs in their order

  first_none : AreMadeFrom t n r a b name (ends_of r) []
  first_none = record {
    each = λ k q e. cc;
    all = λ e q le h. absurd (let l = made_below e q h in omega (arith, le, l));
    rising = λ j k d e p q l f. cc;
  }

  module _ (end : ℕ) (qs : List (AgentNo × AgentNo)) (are : AreMadeFrom t n r a b name (suc end) qs) where
    here_or_above : (e : ℕ) → end ≤ e → (e ≡ end) ⊎ (suc end ≤ e)
    here_or_above e h = grind (arith, h)

    one_more : (q : AgentNo × AgentNo) → IsMade t n r a b name end q → AreMadeFrom t n r a b name end (q ∷ qs)
    one_more q h = record { each = each; all = all; rising = rising }
      where
        each : (k : ℕ) (p : AgentNo × AgentNo) → slice_get (q ∷ qs) k ≡ Some p → (e : ℕ) × (end ≤ e) × IsMade t n r a b name e p
        each zero p e = (end, omega arith, subst (IsMade t n r a b name end) (same_Some q p e) h)
        each (suc k) p e = let r = are.each k p e in (r.0, (let l = r.1 in omega (arith, l)), r.2)

        all : (e : ℕ) (p : AgentNo × AgentNo) → end ≤ e → IsMade t n r a b name e p → (k : ℕ) × (slice_get (q ∷ qs) k ≡ Some p)
        all e p le g = elim (here_or_above e le) [
          | inl same ↦ (0, ap (λ (p : AgentNo × AgentNo). Some p) (pair_once t n r a b name site.net site.inside site.redex site.naming end q p h (subst (λ e. IsMade t n r a b name e p) same g)))
          | inr above ↦ (let r = are.all e p above g in (suc r.0, r.1))
        ]

        rising : (j k d e : ℕ) (p w : AgentNo × AgentNo) → j < k → slice_get (q ∷ qs) j ≡ Some p → slice_get (q ∷ qs) k ≡ Some w → IsMade t n r a b name d p → IsMade t n r a b name e w → d < e
        rising j zero d e p w l f g x y = absurd (omega (arith, l))
        rising zero (suc k) d e p w l f g x y =
            let low = end_once t n r a b name d end p x (subst (IsMade t n r a b name end) (same_Some q p f) h) in
            let h = are.each k w g in
            let high = end_once t n r a b name e h.0 w y h.2 in
            let above = h.1 in
            omega (arith, low, high, above)
        rising (suc j) (suc k) d e p w l f g x y = are.rising j k d e p w (omega (arith, l)) f g x y

pub none_is_made_first : NoneIsMadeFirst
none_is_made_first t n r a b name site = first_none t n r a b name site

pub one_more_is_made : OneMoreIsMade
one_more_is_made t n r a b name end made q site are h =
    let turned : reverse (made ++ q ∷ []) ≡ q ∷ reverse made = reverse-append made (q ∷ []) in
    subst (AreMadeFrom t n r a b name end) (sym turned) (one_more t n r a b name site end (reverse made) are q h)

pub no_more_is_made : NoMoreIsMade
no_more_is_made t n r a b name end made are none = record {
  each = λ k q e. (let r = are.each k q e in let l = r.1 in (r.0, omega (arith, l), r.2));
  all = λ e q le h. elim (let o : (e ≡ end) ⊎ (suc end ≤ e) = grind (arith, le) in o) [
    | inl same ↦ absurd (none q (subst (λ e. IsMade t n r a b name e q) same h))
    | inr above ↦ are.all e q above h
  ];
  rising = are.rising;
}

pub all_made_are_over_ends : AllMadeAreOverEnds
all_made_are_over_ends t n r a b name made are = record {
  each = λ k q e. (let r = are.each k q e in (r.0, r.2));
  all = λ e q h. are.all e q (omega arith) h;
  rising = are.rising;
}
