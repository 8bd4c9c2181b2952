-- An interaction is a gluing: its alternating paths are the paths of the rest and the right member that go through joints.
use Rattle.std.proofs.Common.{◌≡◌, ◌≢◌, ◌⊎◌, ◌+◌, ◌<◌, ℕ, zero, suc, Bool, true, false, cond, Option, Some, None, IsSome, List, [], ◌∷◌, length, refl, sym, subst, ap, ◌∙◌, inl, inr, arith}
use native.Mathlib.Decide.{ℕ_discrete}
use Rattle.std.proofs.lemmas.Option.{same_Some}
use Rattle.in_base.specs.Lists.{IsAmong}
use Rattle.in_net.specs.Interactions.{Redex, Side, Outer, Inner, other, Alternates, PairPath, stands_for, InnerWire, wire_of, IsOfPair}
use Rattle.in_net.specs.Nets.{Point, Port, Free, Signature, Net, IsPoint}
use Rattle.in_net.proofs.Public.{end_of, end_of_pair, stands_one, first_wire, not_pair}
use Rattle.in_interaction.proofs.Public.{has_value, outer_next, outer_at, not_principal, pt_same, same_free}
use Rattle.in_gluing.proofs.Points.{port_free}
use Rattle.in_gluing.specs.Gluing.{Cuts, IsJointEndAt, IsJointEnd, glue_wire, AreLinked}
use Rattle.in_gluing.specs.AsGluing.{boundary_port, IsInRest, IsRestOf, two_parts, old_and_new, across_at, boundary, CanStep}

abbrev pub Spot : Type 0
Spot = ℕ × Point ℕ

-- the part on a side of the boundary
abbrev pub part_of : Side → ℕ
part_of Outer = 0
part_of Inner = 1

-- the joint at a boundary end, from either side
pub across_is : (joined : ℕ → Bool) (s : Side) (d : ℕ) → joined d ≡ true → across_at joined (part_of s) d ≡ Some (part_of (other s), d)
across_is joined Outer d h = ap (λ (b : Bool). cond b (Some (1, d)) None) h
across_is joined Inner d h = ap (λ (b : Bool). cond b (Some (0, d)) None) h

pub joint_is : (joined : ℕ → Bool) (s : Side) (e j f : ℕ) → across_at joined (part_of s) e ≡ Some (j, f) → (joined e ≡ true) × (j ≡ part_of (other s)) × (f ≡ e)
joint_is joined s e j f h = by s h
  where
    go : (k : ℕ) (b : Bool) → joined e ≡ b → cond {A = Option (ℕ × ℕ)} b (Some (k, e)) None ≡ Some (j, f) → (joined e ≡ true) × (j ≡ k) × (f ≡ e)
    go k true is h = let same : (k, e) ≡ (j, f) = same_Some (k, e) (j, f) h in (is, sym (ap (λ (z : ℕ × ℕ). z.0) same), sym (ap (λ (z : ℕ × ℕ). z.1) same))
    go k false is h = cc

    by : (s : Side) → across_at joined (part_of s) e ≡ Some (j, f) → (joined e ≡ true) × (j ≡ part_of (other s)) × (f ≡ e)
    by Outer h = go 1 (joined e) refl h
    by Inner h = go 0 (joined e) refl h

pub side_of : (joined : ℕ → Bool) (i e : ℕ) (q : ℕ × ℕ) → across_at joined i e ≡ Some q → (s : Side) × (i ≡ part_of s)
side_of joined zero e q h = (Outer, refl)
side_of joined (suc zero) e q h = (Inner, refl)
side_of joined (suc (suc i)) e q h = cc

module _ (sig : Signature) (n : Net ℕ) (x : Redex ℕ ℕ) (name : ℕ → ℕ) (rest : Net ℕ) (site : CanStep sig n x name) (is_rest : IsRestOf sig n x rest) where
  abbrev pub many : ℕ
  many = length x.member.free

  abbrev pub pt : ℕ → Point ℕ
  pt e = boundary_port sig x e

  abbrev pub parts : ℕ → Net ℕ
  parts = two_parts rest x.member

  abbrev pub Stays : Point ℕ → Type 0
  Stays u = IsOfPair x u → ⊥

  -- a point of the part on that side, and its point of the net or of a new agent
  abbrev pub In : Side → Point ℕ → Point ℕ → Type 0
  In Outer p u = IsPoint sig n u × IsInRest sig x u p
  In Inner p u = IsPoint sig x.member p × (stands_for sig x name p ≡ u)

  -- ---- wires

  outside : (u : Point ℕ) → Stays u → (p : Point ℕ) × IsInRest sig x u p
  outside (Port y i) h = (Port y i, inl ((λ e. h (inl e)), (λ e. h (inr e)), refl))
  outside (Free k) h = (Free (many + k), refl)

  outside_end : (u : Point ℕ) (d : ℕ) → d < many → u ≡ pt d → IsInRest sig x u (Free d)
  outside_end u d h e = subst (λ u. IsInRest sig x u (Free d)) (sym e) (inr (d, h, refl, refl))

  pub outside_once : (u v p : Point ℕ) → IsInRest sig x u p → IsInRest sig x v p → u ≡ v
  outside_once (Port y i) (Port z j) p (inl a) (inl b) = sym a.2 ∙ b.2
  outside_once (Port y i) (Port z j) p (inl a) (inr b) = absurd (port_free y i b.0 (sym a.2 ∙ b.3))
  outside_once (Port y i) (Port z j) p (inr a) (inl b) = absurd (port_free z j a.0 (sym b.2 ∙ a.3))
  outside_once (Port y i) (Port z j) p (inr a) (inr b) = sym a.2 ∙ ap pt (same_free a.0 b.0 (sym a.3 ∙ b.3)) ∙ b.2
  outside_once (Port y i) (Free k) p (inl a) b = absurd (port_free y i (many + k) (sym a.2 ∙ b))
  outside_once (Port y i) (Free k) p (inr a) b = let e = same_free a.0 (many + k) (sym a.3 ∙ b) in absurd (let l = a.1 in omega (arith, e, l))
  outside_once (Free k) (Port y i) p a (inl b) = absurd (port_free y i (many + k) (sym b.2 ∙ a))
  outside_once (Free k) (Port y i) p a (inr b) = let e = same_free b.0 (many + k) (sym b.3 ∙ a) in absurd (let l = b.1 in omega (arith, e, l))
  outside_once (Free k) (Free l) p a b = let e = same_free (many + k) (many + l) (sym a ∙ b) in ap (λ (k : ℕ). Free k) (omega (arith, e))

  -- a point outside is no principal port of the pair
  is_auxiliary : (y : ℕ) (u p : Point ℕ) → IsOfPair x (Port y 0) → IsInRest sig x u p → u ≢ Port y 0
  is_auxiliary y (Free k) p o h e = absurd (port_free y 0 k (sym e))
  is_auxiliary y (Port z i) p o (inl h) e = elim (subst (IsOfPair x) (sym e) o) [ inl a ↦ h.0 a | inr b ↦ h.1 b ]
  is_auxiliary y (Port z i) p o (inr h) e = not_principal sig n x name site.net site.inside site.redex site.naming ℕ_discrete h.0 y (h.2 ∙ e)

  pub next_outer : (p u v : Point ℕ) → In Outer p u → n.partner u ≡ Some v → (q : Point ℕ) × In Outer q v × (rest.partner p ≡ Some q)
  next_outer p u v i w = go (outer_next sig n x name site.net site.inside site.redex site.naming ℕ_discrete u v w (is_auxiliary x.one u p (inl refl) i.1) (is_auxiliary x.two u p (inr refl) i.1))
    where
      there : IsPoint sig n v
      there = site.net.points v u (site.net.back u v w)

      go : Stays v ⊎ ((d : ℕ) × (d < sig.arity x.first + sig.arity x.second) × (v ≡ pt d)) → (q : Point ℕ) × In Outer q v × (rest.partner p ≡ Some q)
      go (inl h) = let o = outside v h in (o.0, (there, o.1), (is_rest.wires p o.0).1 (u, v, i.1, o.1, w))
      go (inr d) =
          let o = outside_end v d.0 (subst (λ m. d.0 < m) (sym site.redex.ends) d.1) d.2 in
          (Free d.0, (there, o), (is_rest.wires p (Free d.0)).1 (u, v, i.1, o, w))

  next_inner : (p u v : Point ℕ) → In Inner p u → InnerWire sig x name u v → (q : Point ℕ) × In Inner q v × (x.member.partner p ≡ Some q)
  next_inner p u v i w =
      let same : w.0 ≡ p = stands_one sig n x name site.net site.inside site.redex site.naming w.0 p (site.inside.points w.0 w.1 w.4) i.0 (w.2 ∙ sym i.1) in
      (w.1, (site.inside.points w.1 w.0 (site.inside.back w.0 w.1 w.4), w.3), ap x.member.partner (sym same) ∙ w.4)

  next : (s : Side) (p u v : Point ℕ) → In s p u → wire_of sig n x name s u v → (q : Point ℕ) × In s q v × ((parts (part_of s)).partner p ≡ Some q)
  next Outer p u v i w = next_outer p u v i w
  next Inner p u v i w = next_inner p u v i w

  wire_back : (s : Side) (p q u : Point ℕ) → In s p u → (parts (part_of s)).partner p ≡ Some q → (v : Point ℕ) × In s q v × wire_of sig n x name s u v
  wire_back Outer p q u i e =
      let r = (is_rest.wires p q).0 e in
      let same : r.0 ≡ u = outside_once r.0 u p r.2 i.1 in
      let wire : n.partner u ≡ Some r.1 = ap n.partner (sym same) ∙ r.4 in
      (r.1, (site.net.points r.1 u (site.net.back u r.1 wire), r.3), wire)
  wire_back Inner p q u i e = (stands_for sig x name q, (site.inside.points q p (site.inside.back p q e), refl), (p, q, i.1, refl, e))

  -- ---- boundary ends

  -- a port of the pair that is met on one side is a boundary end
  turn : (s : Side) (q v : Point ℕ) → In s q v → IsOfPair x v → (d : ℕ) × (d < many) × (q ≡ Free d) × (v ≡ pt d)
  turn Outer q (Port y i) at h = elim at.1 [ inl k ↦ absurd (elim h [ inl a ↦ k.0 a | inr b ↦ k.1 b ]) | inr k ↦ (k.0, k.1, k.3, sym k.2) ]
  turn Outer q (Free k) at h = absurd h
  turn Inner q v at h =
      let e = end_of sig n x name site.net site.inside site.redex site.naming q at.0 (subst (IsOfPair x) (sym at.1) h) in
      (e.0, subst (IsPoint sig x.member) e.1 at.0, e.1, sym at.1 ∙ ap (stands_for sig x name) e.1)

  pub at_end : (s : Side) (d : ℕ) → d < many → In s (Free d) (pt d)
  at_end Outer d h =
      let f = outer_at sig n x name site.net site.inside site.redex site.naming ℕ_discrete d (subst (λ m. d < m) site.redex.ends h) in
      (site.net.points (pt d) f.0 f.1, inr (d, h, refl, refl))
  at_end Inner d h = (h, refl)

  end_in : (s : Side) (e : ℕ) (v : Point ℕ) → e < many → In s (Free e) v → v ≡ pt e
  end_in Outer e (Port y i) l at = elim at.1 [ inl k ↦ absurd (port_free y i e (sym k.2)) | inr k ↦ sym k.2 ∙ ap pt (same_free k.0 e (sym k.3)) ]
  end_in Outer e (Free k) l at = let h = same_free e (many + k) at.1 in absurd (omega (arith, h, l))
  end_in Inner e v l at = sym at.1

  -- ---- agents' ports

  pub port_in : (s : Side) (a k : ℕ) (u : Point ℕ) → In s (Port a k) u → u ≡ Port (old_and_new name (part_of s) a) k
  port_in Outer a k (Port y i) at = elim at.1 [ inl h ↦ sym h.2 | inr h ↦ absurd (port_free a k h.0 h.3) ]
  port_in Outer a k (Free e) at = absurd (port_free a k (many + e) at.1)
  port_in Inner a k u at = sym at.1

  pub in_port : (s : Side) (p : Point ℕ) (y i : ℕ) → Stays (Port y i) → In s p (Port y i) → (a : ℕ) × (p ≡ Port a i) × (old_and_new name (part_of s) a ≡ y)
  in_port Outer p y i h at = elim at.1 [ inl k ↦ (y, k.2, refl) | inr k ↦ absurd (h (subst (IsOfPair x) k.2 (end_of_pair sig n x name site.net site.inside site.redex site.naming k.0))) ]
  in_port Inner (Port k j) y i h at =
      let agent : name k ≡ y = (let e : Port (name k) j ≡ Port y i = at.1 in cc) in
      let place : j ≡ i = (let e : Port (name k) j ≡ Port y i = at.1 in cc) in
      (k, ap (λ (j : ℕ). Port k j) place, agent)
  in_port Inner (Free e) y i h at = absurd (h (subst (IsOfPair x) at.1 (end_of_pair sig n x name site.net site.inside site.redex site.naming e)))

  pub port_stays : (s : Side) (a k : ℕ) (u : Point ℕ) → In s (Port a k) u → Stays u
  port_stays Outer a k (Port y i) at o = elim at.1 [ inl h ↦ elim o [ inl e ↦ h.0 e | inr e ↦ h.1 e ] | inr h ↦ absurd (port_free a k h.0 h.3) ]
  port_stays Outer a k (Free e) at o = o
  port_stays Inner a k u at o = not_pair sig n x name site.net site.inside site.redex site.naming a k at.0 (subst (IsOfPair x) (sym at.1) o)

  module _ (joined : ℕ → Bool) (within : (e : ℕ) → joined e ≡ true → e < many) where
    abbrev pub cuts : Cuts
    cuts = boundary n x joined

    abbrev Glued : Spot → List Spot → Spot → Type 0
    Glued = Alternates (glue_wire parts cuts) (IsJointEnd cuts) Outer

    -- through joined boundary ends alone
    abbrev pub GoesThrough : List (Point ℕ) → Type 0
    GoesThrough es = (d : ℕ) → IsAmong (pt d) es → joined d ≡ true

    pub cut_at_end : (s : Side) (d : ℕ) → joined d ≡ true → IsJointEnd {A = ℕ} cuts (part_of s, Free d)
    cut_at_end s d h = subst IsSome (sym (across_is joined s d h)) refl

    -- a joint has joined free ends
    near_cut : (p q : Spot) → glue_wire parts cuts Inner p q → IsJointEnd cuts p
    near_cut p q w = subst (λ u. IsJointEndAt cuts p.0 u) (sym w.2) (subst IsSome (sym w.4) refl)

    far_cut : (p q : Spot) → glue_wire parts cuts Inner p q → IsJointEnd cuts q
    far_cut p q w =
        let s = side_of joined p.0 w.0 (q.0, w.1) w.4 in
        let j = joint_is joined s.0 w.0 q.0 w.1 (subst (λ i. across_at joined i w.0 ≡ Some (q.0, w.1)) s.1 w.4) in
        let cut : IsJointEndAt {A = ℕ} cuts (part_of (other s.0)) (Free w.0) = cut_at_end (other s.0) w.0 j.0 in
        let here : IsJointEndAt {A = ℕ} cuts q.0 (Free w.1) = subst (λ i. IsJointEndAt {A = ℕ} cuts i (Free w.1)) (sym j.1) (subst (λ f. IsJointEndAt {A = ℕ} cuts (part_of (other s.0)) (Free f)) (sym j.2) cut) in
        subst (λ u. IsJointEndAt cuts q.0 u) (sym w.3) here

    -- ---- paths

    forth : (s : Side) (p u : Point ℕ) (es : List (Point ℕ)) (v : Point ℕ) → In s p u → PairPath sig n x name s u es v → GoesThrough es → (t : Side) × (q : Point ℕ) × In t q v × ((fs : List Spot) × Glued (part_of s, p) fs (part_of t, q))
    forth s p u [] v i w all = let r = next s p u v i w in (s, r.0, r.1, ([], (refl, r.2)))
    forth s p u (e ∷ es) v i w all =
        let r = next s p u e i w.0 in
        let d = turn s r.0 e r.1 w.1 in
        let on : joined d.0 ≡ true = all d.0 (inl d.3) in
        let k = forth (other s) (Free d.0) (pt d.0) es v (at_end (other s) d.0 d.1) (subst (λ e. PairPath sig n x name (other s) e es v) d.3 w.2) (λ c m. all c (inr m)) in (
          k.0,
          k.1,
          k.2,
          (
            (part_of s, Free d.0) ∷ (part_of (other s), Free d.0) ∷ k.3.0,
            (
              (refl, r.2 ∙ ap (λ (q : Point ℕ). Some q) d.2),
              cut_at_end s d.0 on,
              ((d.0, d.0, refl, refl, across_is joined s d.0 on), cut_at_end (other s) d.0 on, k.3.1),
            ),
          ),
        )

    -- the end of a path of the parts, and the net of which it is a path
    record From (s : Side) (u : Point ℕ) (q : Spot) : Type 0 where
      side : Side
      is_side : q.0 ≡ part_of side
      end : Point ℕ
      at : In side q.1 end
      ends : List (Point ℕ)
      way : PairPath sig n x name s u ends end
      goes : GoesThrough ends

    back : (s : Side) (p u : Point ℕ) (fs : List Spot) (q : Spot) → In s p u → (IsJointEnd cuts q → ⊥) → Glued (part_of s, p) fs q → From s u q
    back s p u [] q i stays w =
        let r = wire_back s p q.1 u i w.1 in
        record { side = s; is_side = sym w.0; end = r.0; at = r.1; ends = []; way = r.2; goes = λ d k. absurd k }
    back s p u (g ∷ []) q i stays w = absurd (stays (far_cut g q w.2))
    back s p u (g ∷ h ∷ hs) q i stays w =
        let joint = w.2.0 in
        let r = wire_back s p g.1 u i w.0.1 in
        let j = joint_is joined s joint.0 h.0 joint.1 (subst (λ i. across_at joined i joint.0 ≡ Some (h.0, joint.1)) (sym w.0.0) joint.4) in
        let low : joint.0 < many = within joint.0 j.0 in
        let at : r.0 ≡ pt joint.0 = end_in s joint.0 r.0 low (subst (λ q. In s q r.0) joint.2 r.1) in
        let here : ◌≡◌ {A = Spot} h (part_of (other s), Free joint.0) =
        ap (λ (u : Point ℕ). (h.0, u)) (joint.3 ∙ ap (λ (f : ℕ). Free f) j.2) ∙ ap (λ (k : ℕ). (k, Free joint.0)) j.1 in
        let k = back (other s) (Free joint.0) (pt joint.0) hs q (at_end (other s) joint.0 low) stays (subst (λ z. Glued z hs q) here w.2.2) in
        record {
          side = k.side;
          is_side = k.is_side;
          end = k.end;
          at = k.at;
          ends = pt joint.0 ∷ k.ends;
          way = (subst (wire_of sig n x name s u) at r.2, end_of_pair sig n x name site.net site.inside site.redex site.naming joint.0, k.way);
          goes = λ d m. elim m [
            | inl same ↦ subst (λ z. joined z ≡ true) (pt_same sig n x name site.net site.inside site.redex site.naming joint.0 d same) j.0
            | inr m ↦ k.goes d m
          ];
        }

    -- ---- whole paths

    uncut : (s : Side) (p u : Point ℕ) → In s p u → Stays u → IsJointEnd cuts (part_of s, p) → ⊥
    uncut Outer p (Port y i) at h c = elim at.1 [
      | inl k ↦ subst (λ u. IsJointEndAt cuts 0 u) k.2 c
      | inr k ↦ h (subst (IsOfPair x) k.2 (end_of_pair sig n x name site.net site.inside site.redex site.naming k.0))
    ]
    uncut Outer p (Free k) at h c =
        let r = has_value (across_at joined 0 (many + k)) (subst (λ u. IsJointEndAt cuts 0 u) at.1 c) in
        let j = joint_is joined Outer (many + k) r.0.0 r.0.1 r.1 in
        let l = within (many + k) j.0 in
        absurd (omega (arith, l))
    uncut Inner (Port k i) u at h c = c
    uncut Inner (Free e) u at h c = h (subst (IsOfPair x) at.1 (end_of_pair sig n x name site.net site.inside site.redex site.naming e))

    begin : (s : Side) (u : Point ℕ) (es : List (Point ℕ)) (v : Point ℕ) → Stays u → PairPath sig n x name s u es v → (p : Point ℕ) × In s p u
    begin s u es v h w = go s (first_wire sig n x name site.net site.inside site.redex site.naming s u es v w)
      where
        go : (s : Side) → (w : Point ℕ) × wire_of sig n x name s u w → (p : Point ℕ) × In s p u
        go Outer w = let o = outside u h in (o.0, (site.net.points u w.0 w.1, o.1))
        go Inner w = (w.1.0, (site.inside.points w.1.0 w.1.1 w.1.4, w.1.2))

    -- a path through joined boundary ends, from a point that stays to one, links the points of the parts
    pub record Linked (u v : Point ℕ) : Type 0 where
      pub one : Side
      pub two : Side
      pub p : Point ℕ
      pub q : Point ℕ
      pub at_one : In one p u
      pub at_two : In two q v
      pub linked : AreLinked parts cuts (part_of one, p) (part_of two, q)

    pub link : (s : Side) (u : Point ℕ) (es : List (Point ℕ)) (v : Point ℕ) → Stays u → Stays v → PairPath sig n x name s u es v → GoesThrough es → Linked u v
    link s u es v hu hv w all =
        let b = begin s u es v hu w in
        let r = forth s b.0 u es v b.1 w all in
        record { one = s; two = r.0; p = b.0; q = r.1; at_one = b.1; at_two = r.2; linked = (uncut s b.0 u b.1 hu, uncut r.0 r.1 v r.2 hv, (Outer, r.3.0, r.3.1)) }

    -- .. and points that are linked are joined by such a path
    pub record Unlinked (p q : Spot) : Type 0 where
      pub one : Side
      pub two : Side
      pub is_one : p.0 ≡ part_of one
      pub is_two : q.0 ≡ part_of two
      pub u : Point ℕ
      pub v : Point ℕ
      pub at_one : In one p.1 u
      pub at_two : In two q.1 v
      pub ends : List (Point ℕ)
      pub way : PairPath sig n x name one u ends v
      pub goes : GoesThrough ends

    starts : (i : ℕ) (p q : Point ℕ) → (parts i).partner p ≡ Some q → (s : Side) × (i ≡ part_of s) × ((u : Point ℕ) × In s p u)
    starts zero p q e = let r = (is_rest.wires p q).0 e in (Outer, refl, (r.0, (site.net.points r.0 r.1 r.4, r.2)))
    starts (suc zero) p q e = (Inner, refl, (stands_for sig x name p, (site.inside.points p q e, refl)))
    starts (suc (suc i)) p q e = cc

    first_of : (p : Spot) (fs : List Spot) (q : Spot) → Glued p fs q → (r : Point ℕ) × ((parts p.0).partner p.1 ≡ Some r)
    first_of p [] q w = (q.1, w.1)
    first_of p (f ∷ fs) q w = (f.1, w.0.1)

    begins_joint : (p : Spot) (fs : List Spot) (q : Spot) → Alternates (glue_wire parts cuts) (IsJointEnd cuts) Inner p fs q → IsJointEnd cuts p
    begins_joint p [] q w = near_cut p q w
    begins_joint p (f ∷ fs) q w = near_cut p f w.0

    pub unlink : (p q : Spot) → AreLinked parts cuts p q → Unlinked p q
    unlink p q l = go l.2.0 l.2.1 l.2.2
      where
        go : (s : Side) (fs : List Spot) → Alternates (glue_wire parts cuts) (IsJointEnd cuts) s p fs q → Unlinked p q
        go Inner fs w = absurd (l.0 (begins_joint p fs q w))
        go Outer fs w =
            let f = first_of p fs q w in
            let b = starts p.0 p.1 f.0 f.1 in
            let from : ◌≡◌ {A = Spot} p (part_of b.0, p.1) = ap (λ (i : ℕ). (i, p.1)) b.1 in
            let r = back b.0 p.1 b.2.0 fs q b.2.1 l.1 (subst (λ z. Glued z fs q) from w) in
            record { one = b.0; two = r.side; is_one = b.1; is_two = r.is_side; u = b.2.0; v = r.end; at_one = b.2.1; at_two = r.at; ends = r.ends; way = r.way; goes = r.goes }
