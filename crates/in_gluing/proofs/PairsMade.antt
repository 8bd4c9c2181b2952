-- The active pairs of a net that is glued from parts.
use Rattle.std.proofs.Common.{◌≡◌, ◌⊎◌, ℕ, Some, List, [], ◌∷◌, refl, sym, subst, ap, ◌∙◌, inl, inr}
use Rattle.in_net.specs.Interactions.{Side, Outer, Inner, Alternates}
use Rattle.in_net.specs.Nets.{Point, Port, Free, Net}
use Rattle.in_net.proofs.Public.{port_agent, port_place}
use Rattle.in_base.proofs.Places.{is_some}
use Rattle.in_gluing.specs.Gluing.{Cuts, IsJointEndAt, IsJointEnd, glue_wire, AreLinked, IsPlaced, IsGlued}
use Rattle.in_gluing.specs.Laws.{MeetByJoints, joint, joint_later, IsPairOfPart, IsPairAcross, PairsAreOfPartsOrMade}

module _ (parts : ℕ → Net ℕ) (name : ℕ → ℕ → ℕ) (cuts : Cuts) where
  -- joints from one free end to another, and a wire of a part from there
  abbrev Last : ℕ × Point ℕ → ℕ × Point ℕ → Type 0
  Last e q = (f : ℕ × Point ℕ) × MeetByJoints parts cuts e f × IsJointEnd cuts f × glue_wire parts cuts Outer f q

  last : (e : ℕ × Point ℕ) (fs : List (ℕ × Point ℕ)) (q : ℕ × Point ℕ) → (IsJointEnd cuts q → ⊥) → Alternates (glue_wire parts cuts) (IsJointEnd cuts) Inner e fs q → ((p r : ℕ × Point ℕ) → glue_wire parts cuts Inner p r → IsJointEnd cuts r) → Last e q
  last e [] q h w cut = absurd (h (cut e q w))
  last e (f ∷ []) q h w cut = (f, joint e f w.0, w.1, w.2)
  last e (f ∷ g ∷ gs) q h w cut =
      let r = last g gs q h w.2.2 cut in
      (r.0, joint_later e f g r.0 w.0 w.2.0 r.1, r.2, r.3)

  -- a joined end is a free end
  free_of : (i : ℕ) (u : Point ℕ) → IsJointEndAt cuts i u → (e : ℕ) × (u ≡ Free e)
  free_of i (Port x k) h = absurd h
  free_of i (Free e) h = (e, refl)

  placed_port : (i : ℕ) (u : Point ℕ) (a k : ℕ) → IsPlaced cuts name i u (Port a k) → (x : ℕ) × (u ≡ Port x k) × (name i x ≡ a)
  placed_port i (Port x l) a k h = (x, ap (λ k. Port x k) (sym (port_place a (name i x) k l h)), sym (port_agent a (name i x) k l h))
  placed_port i (Free e) a k h = let f : Port a k ≡ Free h.0 = h.1 in cc

  starts : (p q : ℕ × Point ℕ) → ((p r : ℕ × Point ℕ) → glue_wire parts cuts Inner p r → IsJointEnd cuts p) → MeetByJoints parts cuts p q → IsJointEnd cuts p
  starts p q near (joint _ _ w) = near p q w
  starts p q near (joint_later _ f _ _ w o m) = near p f w

  -- a path from joined free end to joined free end
  along : (p q : ℕ × Point ℕ) (v : ℕ × Point ℕ) → ((p r : ℕ × Point ℕ) → glue_wire parts cuts Inner p r → IsJointEnd cuts r) → ((p r : ℕ × Point ℕ) → glue_wire parts cuts Inner p r → IsJointEnd cuts p) → MeetByJoints parts cuts p q → glue_wire parts cuts Outer q v → (fs : List (ℕ × Point ℕ)) × Alternates (glue_wire parts cuts) (IsJointEnd cuts) Inner p fs v
  along p q v far near (joint _ _ w) h = (q ∷ [], (w, far p q w, h))
  along p q v far near (joint_later _ f g _ w o m) h =
      let r = along g q v far near m h in
      (f ∷ g ∷ r.0, (w, far p f w, (o, starts g q near m, r.1)))

  module _ (back : (p q : ℕ × ℕ) → cuts.across p ≡ Some q → cuts.across q ≡ Some p) where
    near : (p r : ℕ × Point ℕ) → glue_wire parts cuts Inner p r → IsJointEnd cuts p
    near p r w = subst (λ u. IsJointEndAt cuts p.0 u) (sym w.2) (is_some (cuts.across (p.0, w.0)) (r.0, w.1) w.4)

    far : (p r : ℕ × Point ℕ) → glue_wire parts cuts Inner p r → IsJointEnd cuts r
    far p r w = subst (λ u. IsJointEndAt cuts r.0 u) (sym w.3) (is_some (cuts.across (r.0, w.1)) (p.0, w.0) (back (p.0, w.0) (r.0, w.1) w.4))

    module _ (whole : Net ℕ) (glued : IsGlued parts name cuts whole) (a b : ℕ) where
      forth : whole.partner (Port a 0) ≡ Some (Port b 0) → IsPairOfPart parts name a b ⊎ IsPairAcross parts name cuts a b
      forth e = go r.0 r.1 (placed_port r.0.0 r.0.1 a 0 r.2) (placed_port r.1.0 r.1.1 b 0 r.3) r.4.0 r.4.1 r.4.2.0 r.4.2.1 r.4.2.2
        where
          r : (p q : ℕ × Point ℕ) × IsPlaced cuts name p.0 p.1 (Port a 0) × IsPlaced cuts name q.0 q.1 (Port b 0) × AreLinked parts cuts p q
          r = (glued.wires (Port a 0) (Port b 0)).0 e

          go : (p q : ℕ × Point ℕ) → (x : ℕ) × (p.1 ≡ Port x 0) × (name p.0 x ≡ a) → (y : ℕ) × (q.1 ≡ Port y 0) × (name q.0 y ≡ b) → (IsJointEnd cuts p → ⊥) → (IsJointEnd cuts q → ⊥) → (s : Side) (es : List (ℕ × Point ℕ)) → Alternates (glue_wire parts cuts) (IsJointEnd cuts) s p es q → IsPairOfPart parts name a b ⊎ IsPairAcross parts name cuts a b
          go p q x y hp hq Inner [] w = absurd (hp (near p q w))
          go p q x y hp hq Inner (g ∷ gs) w = absurd (hp (near p g w.0))
          go p q x y hp hq Outer [] w =
              inl (p.0, x.0, y.0, x.2, ap (λ i. name i y.0) w.0 ∙ y.2, ap (parts p.0).partner (sym x.1) ∙ w.1 ∙ ap (λ u. Some u) y.1)
          go p q x y hp hq Outer (g ∷ gs) w =
              let l = last g gs q hq w.2 far in
              let e = free_of g.0 g.1 w.1 in
              let f = free_of l.0.0 l.0.1 l.2 in
              let meets : MeetByJoints parts cuts (p.0, Free e.0) (q.0, Free f.0) =
              subst (λ i. MeetByJoints parts cuts (i, Free e.0) (q.0, Free f.0)) (sym w.0.0) (subst (λ j. MeetByJoints parts cuts (g.0, Free e.0) (j, Free f.0)) l.3.0 (subst (λ u. MeetByJoints parts cuts (g.0, u) (l.0.0, Free f.0)) e.1 (subst (λ u. MeetByJoints parts cuts g (l.0.0, u)) f.1 l.1))) in
              inr (
                p.0,
                x.0,
                e.0,
                q.0,
                y.0,
                f.0,
                x.2,
                y.2,
                ap (parts p.0).partner (sym x.1) ∙ w.0.1 ∙ ap (λ u. Some u) e.1,
                subst (λ j. (parts j).partner (Free f.0) ≡ Some (Port y.0 0)) l.3.0 (ap (parts l.0.0).partner (sym f.1) ∙ l.3.1 ∙ ap (λ u. Some u) y.1),
                meets,
              )

      back_again : IsPairOfPart parts name a b ⊎ IsPairAcross parts name cuts a b → whole.partner (Port a 0) ≡ Some (Port b 0)
      back_again (inl r) =
          (glued.wires (Port a 0) (Port b 0)).1 ((r.0, Port r.1 0), (r.0, Port r.2 0), ap (λ a. Port a 0) (sym r.3), ap (λ b. Port b 0) (sym r.4), ((λ h. h), (λ h. h), (Outer, [], (refl, r.5))))
      back_again (inr r) = at r.0 r.1 r.2 r.3 r.4 r.5 r.6 r.7 r.8 r.9 r.10
        where
          at : (i x e j y f : ℕ) → name i x ≡ a → name j y ≡ b → (parts i).partner (Port x 0) ≡ Some (Free e) → (parts j).partner (Free f) ≡ Some (Port y 0) → MeetByJoints parts cuts (i, Free e) (j, Free f) → whole.partner (Port a 0) ≡ Some (Port b 0)
          at i x e j y f nx ny e1 e2 m =
              let r = along (i, Free e) (j, Free f) (j, Port y 0) far near m (refl, e2) in
              (glued.wires (Port a 0) (Port b 0)).1 (
                (i, Port x 0),
                (j, Port y 0),
                ap (λ a. Port a 0) (sym nx),
                ap (λ b. Port b 0) (sym ny),
                ((λ h. h), (λ h. h), (Outer, (i, Free e) ∷ r.0, ((refl, e1), starts (i, Free e) (j, Free f) near m, r.1))),
              )

pub pairs_are_of_parts_or_made : PairsAreOfPartsOrMade
pairs_are_of_parts_or_made parts name cuts whole glued back a b = ((λ e. forth parts name cuts back whole glued a b e), (λ h. back_again parts name cuts back whole glued a b h))
