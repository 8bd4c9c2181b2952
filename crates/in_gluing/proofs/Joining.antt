-- Gluing joint by joint: all joints at once are the earlier ones and then the last one.
use Rattle.std.proofs.Common.{◌≡◌, ◌≢◌, ◌⊎◌, ℕ, Some, List, [], ◌∷◌, refl, sym, subst, ap, ◌∙◌, inl, inr}
use Rattle.std.proofs.lemmas.Option.{same_Some}
use Rattle.in_net.specs.Interactions.{Side, Outer, Inner, other, Alternates}
use Rattle.in_net.specs.Nets.{Point, Port, Free, Net}
use Rattle.in_interaction.proofs.Public.{has_value, same_free}
use Rattle.in_base.proofs.Places.{is_some}
use Rattle.in_gluing.specs.Gluing.{Cuts, IsJointEndAt, IsJointEnd, glue_wire, AreLinked}
use Rattle.in_gluing.specs.Joining.{IsInUse, HasOwnNumber, IsAtNumber, IsJoinedBy, IsOneMore, IsNeither, ArePartnersAfter, JoinsEnds, JoinsNext}
use Rattle.in_gluing.proofs.Commute.{Way, AreIndependent, After_x, Then_y, AtOnce, join, split}
use Rattle.in_gluing.proofs.AtNets.{from_way, to_way}
use Rattle.in_gluing.proofs.Points.{none_some, turned}

alt_map : {P : Type 0} (wire wire' : Side → P → P → Type 0) (End End' : P → Type 0) → ((s : Side) (u v : P) → wire s u v → wire' s u v) → ((u : P) → End u → End' u) → (s : Side) (u : P) (es : List P) (v : P) → Alternates wire End s u es v → Alternates wire' End' s u es v
alt_map wire wire' End End' f g s u [] v w = f s u v w
alt_map wire wire' End End' f g s u (e ∷ es) v w = (f s u e w.0, g e w.1, alt_map wire wire' End End' f g (other s) e es v w.2)

-- ---- free ends that are in use

module _ {A : Type 0} (parts : ℕ → Net A) (cuts : Cuts) where
  abbrev pub UsedAt : ℕ × Point A → Type 0
  UsedAt p = (e : ℕ) → p.1 ≡ Free e → IsInUse parts cuts (p.0, e)

  pub joint_near : (p q : ℕ × Point A) → glue_wire parts cuts Inner p q → IsJointEnd cuts p
  joint_near p q w = subst (λ u. IsJointEndAt cuts p.0 u) (sym w.2) (is_some (cuts.across (p.0, w.0)) (q.0, w.1) w.4)

  -- those at which a path begins and ends
  pub used_first : (s : Side) (p : ℕ × Point A) (es : List (ℕ × Point A)) (q : ℕ × Point A) → Alternates (glue_wire parts cuts) (IsJointEnd cuts) s p es q → (IsJointEnd cuts p → ⊥) → UsedAt p
  used_first Outer p [] q w left e h = inl (q.1, ap (parts p.0).partner (sym h) ∙ w.1)
  used_first Outer p (g ∷ gs) q w left e h = inl (g.1, ap (parts p.0).partner (sym h) ∙ w.0.1)
  used_first Inner p [] q w left e h = absurd (left (joint_near p q w))
  used_first Inner p (g ∷ gs) q w left e h = absurd (left (joint_near p g w.0))

  pub used_last : (s : Side) (p : ℕ × Point A) (es : List (ℕ × Point A)) (q : ℕ × Point A) → Alternates (glue_wire parts cuts) (IsJointEnd cuts) s p es q → UsedAt q
  used_last Outer p [] q w f h = inr (inl (p.1, subst (λ i. (parts i).partner p.1 ≡ Some (Free f)) w.0 (w.1 ∙ ap (λ (u : Point A). Some u) h)))
  used_last Inner p [] q w f h =
      let same : w.1 ≡ f = same_free {A = A} w.1 f (sym w.3 ∙ h) in
      inr (inr ((p.0, w.0), w.4 ∙ ap (λ (f : ℕ). Some (q.0, f)) same))
  used_last s p (g ∷ gs) q w f h = used_last (other s) g gs q w.2 f h

-- parts are joined so far, and one joint more joins two of their free ends
pub record JoinsOneMore {A C : Type 0} (parts : ℕ → Net A) (name : ℕ → A → C) (number : ℕ × ℕ → ℕ) (cuts more : Cuts) (one two : ℕ × ℕ) (m w : Net C) : Type 0 where
  -- no other free end in use has the number of the one
  pub own_one : HasOwnNumber parts more number one
  -- none has the number of the other
  pub own_two : HasOwnNumber parts more number two
  -- each joint so far leads back
  pub back : (p q : ℕ × ℕ) → cuts.across p ≡ Some q → cuts.across q ≡ Some p
  -- each wire of the net so far leads back
  pub m_back : (u v : Point C) → m.partner u ≡ Some v → m.partner v ≡ Some u
  -- none leads to its own point
  pub m_apart : (u : Point C) → m.partner u ≢ Some u
  -- the net so far is the parts, joined by the joints so far
  pub joined : IsJoinedBy parts name number cuts m
  -- the next joint is between these two free ends
  pub is_more : IsOneMore cuts more one two
  -- the net after has their two wires as one
  pub ends : JoinsEnds m (number one) (number two) w

module _ {A C : Type 0} (parts : ℕ → Net A) (name : ℕ → A → C) (number : ℕ × ℕ → ℕ) (cuts more : Cuts) (one two : ℕ × ℕ) (m w : Net C) (given : JoinsOneMore parts name number cuts more one two m w) where
  open given use {own_one, own_two, back, m_back, m_apart, joined, is_more, ends}

  abbrev Spot : Type 0
  Spot = ℕ × Point A

  abbrev P1 : Spot
  P1 = (one.0, Free one.1)

  abbrev P2 : Spot
  P2 = (two.0, Free two.1)

  abbrev W : Spot → Spot → Type 0
  W p q = glue_wire parts cuts Outer p q

  abbrev X : Spot → Spot → Type 0
  X p q = glue_wire parts cuts Inner p q

  abbrev Y : Spot → Spot → Type 0
  Y p q = ((p ≡ P1) × (q ≡ P2)) ⊎ ((p ≡ P2) × (q ≡ P1))

  abbrev EX : Spot → Type 0
  EX p = IsJointEnd cuts p

  abbrev EY : Spot → Type 0
  EY p = (p ≡ P1) ⊎ (p ≡ P2)

  abbrev SX : Spot → Type 0
  SX p = EX p → ⊥

  abbrev SY : Spot → Type 0
  SY p = EY p → ⊥

  cut_one : EX P1 → ⊥
  cut_one h = let r = has_value (cuts.across one) h in none_some (cuts.across one) r.0 is_more.free_one r.1

  cut_two : EX P2 → ⊥
  cut_two h = let r = has_value (cuts.across two) h in none_some (cuts.across two) r.0 is_more.free_other r.1

  not_both : (p : Spot) → EX p → EY p → ⊥
  not_both p h (inl e) = cut_one (subst (λ z. EX z) e h)
  not_both p h (inr e) = cut_two (subst (λ z. EX z) e h)

  joint_cut : (p q : Spot) → X p q → EX p × EX q
  joint_cut p q h = (
    subst (λ u. IsJointEndAt cuts p.0 u) (sym h.2) (is_some (cuts.across (p.0, h.0)) (q.0, h.1) h.4),
    subst (λ u. IsJointEndAt cuts q.0 u) (sym h.3) (is_some (cuts.across (q.0, h.1)) (p.0, h.0) (back (p.0, h.0) (q.0, h.1) h.4)),
  )

  last_ends : (p q : Spot) → Y p q → EY p × EY q
  last_ends p q (inl h) = (inl h.0, inr h.1)
  last_ends p q (inr h) = (inr h.0, inl h.1)

  independent : AreIndependent W X Y EX EY SX SY
  independent = record {
    x_avoids = λ p q h. (
        let r = joint_cut p q h in
        let a : EY p → ⊥ = λ e. not_both p r.0 e in
        let b : EY q → ⊥ = λ e. not_both q r.1 e in
        (a, b, a, b)
        );
    y_avoids = λ p q h. (
        let r = last_ends p q h in
        let a : EX p → ⊥ = λ e. not_both p e r.0 in
        let b : EX q → ⊥ = λ e. not_both q e r.1 in
        (a, b, a, b)
        );
    x_stays = λ p h e. not_both p h e;
    y_stays = λ p e h. not_both p h e;
  }

  -- ---- all joints at once

  abbrev both_wire : Side → Spot → Spot → Type 0
  both_wire Outer p q = W p q
  both_wire Inner p q = X p q ⊎ Y p q

  abbrev both_end : Spot → Type 0
  both_end p = EX p ⊎ EY p

  spot_of : (p : Spot) (e : ℕ) (r : ℕ × ℕ) → p.1 ≡ Free e → (p.0, e) ≡ r → ◌≡◌ {A = Spot} p (r.0, Free r.1)
  spot_of p e r h g = ap (λ (u : Point A). (p.0, u)) h ∙ ap (λ (z : ℕ × ℕ). (z.0, Free z.1)) g

  wire_forth : (s : Side) (p q : Spot) → glue_wire parts more s p q → both_wire s p q
  wire_forth Outer p q h = h
  wire_forth Inner p q h = elim ((is_more.joints (p.0, h.0) (q.0, h.1)).0 h.4) [
    | inl e ↦ inl (h.0, h.1, h.2, h.3, e)
    | inr r ↦ inr (elim r [
      | inl e ↦ inl (spot_of p h.0 one h.2 e.0, spot_of q h.1 two h.3 e.1)
      | inr e ↦ inr (spot_of p h.0 two h.2 e.0, spot_of q h.1 one h.3 e.1)
    ])
  ]

  wire_back : (s : Side) (p q : Spot) → both_wire s p q → glue_wire parts more s p q
  wire_back Outer p q h = h
  wire_back Inner p q (inl h) = (h.0, h.1, h.2, h.3, (is_more.joints (p.0, h.0) (q.0, h.1)).1 (inl h.4))
  wire_back Inner p q (inr (inl h)) = (
    one.1,
    two.1,
    ap (λ (z : Spot). z.1) h.0,
    ap (λ (z : Spot). z.1) h.1,
    ap (λ (z : Spot). more.across (z.0, one.1)) h.0 ∙ (is_more.joints one two).1 (inr (inl (refl, refl))) ∙ ap (λ (z : Spot). Some (z.0, two.1)) (sym h.1),
  )
  wire_back Inner p q (inr (inr h)) = (
    two.1,
    one.1,
    ap (λ (z : Spot). z.1) h.0,
    ap (λ (z : Spot). z.1) h.1,
    ap (λ (z : Spot). more.across (z.0, two.1)) h.0 ∙ (is_more.joints two one).1 (inr (inr (refl, refl))) ∙ ap (λ (z : Spot). Some (z.0, one.1)) (sym h.1),
  )

  end_at : (i : ℕ) (u : Point A) → IsJointEndAt more i u → both_end (i, u)
  end_at i (Port x k) h = absurd h
  end_at i (Free e) h =
      let r = has_value (more.across (i, e)) h in
      elim ((is_more.joints (i, e) r.0).0 r.1) [
        | inl c ↦ inl (is_some (cuts.across (i, e)) r.0 c)
        | inr c ↦ inr (elim c [
          | inl d ↦ inl (ap (λ (z : ℕ × ℕ). (z.0, Free z.1)) d.0)
          | inr d ↦ inr (ap (λ (z : ℕ × ℕ). (z.0, Free z.1)) d.0)
        ])
      ]

  end_back_at : (i : ℕ) (u : Point A) → IsJointEndAt cuts i u → IsJointEndAt more i u
  end_back_at i (Port x k) h = absurd h
  end_back_at i (Free e) h = let r = has_value (cuts.across (i, e)) h in is_some (more.across (i, e)) r.0 ((is_more.joints (i, e) r.0).1 (inl r.1))

  end_back : (p : Spot) → both_end p → IsJointEnd more p
  end_back p (inl h) = end_back_at p.0 p.1 h
  end_back p (inr (inl e)) = subst (λ z. IsJointEnd more z) (sym e) (is_some (more.across one) two ((is_more.joints one two).1 (inr (inl (refl, refl)))))
  end_back p (inr (inr e)) = subst (λ z. IsJointEnd more z) (sym e) (is_some (more.across two) one ((is_more.joints two one).1 (inr (inr (refl, refl)))))

  abbrev After : Spot → Spot → Type 0
  After = After_x W X Y EX EY SX SY

  abbrev Then : Spot → Spot → Type 0
  Then = Then_y W X Y EX EY SX SY

  linked_then : (p q : Spot) → AreLinked parts more p q → Then p q
  linked_then p q l =
      let a = alt_map (glue_wire parts more) both_wire (IsJointEnd more) both_end wire_forth (λ p h. end_at p.0 p.1 h) l.2.0 p l.2.1 q l.2.2 in
      let way = to_way both_wire both_end l.2.0 p l.2.1 q a in
      split W X Y EX EY SX SY independent p q (
        ((λ h. l.0 (end_back p (inl h))), (λ h. l.0 (end_back p (inr h)))),
        ((λ h. l.1 (end_back q (inl h))), (λ h. l.1 (end_back q (inr h)))),
        (l.2.0, l.2.1, way.0, way.1),
      )

  then_linked : (p q : Spot) → Then p q → AreLinked parts more p q
  then_linked p q t =
      let a : AtOnce W X Y EX EY SX SY p q = join W X Y EX EY SX SY independent p q t in
      let path = from_way both_wire both_end a.2.0 p a.2.1 a.2.2 q a.2.3 in (
        (λ h. elim (end_at p.0 p.1 h) [ inl c ↦ a.0.0 c | inr c ↦ a.0.1 c ]),
        (λ h. elim (end_at q.0 q.1 h) [ inl c ↦ a.1.0 c | inr c ↦ a.1.1 c ]),
        (a.2.0, a.2.1, alt_map both_wire (glue_wire parts more) both_end (IsJointEnd more) wire_back end_back a.2.0 p a.2.1 q path),
      )

  -- ---- in the net

  -- the two free ends alone are at their numbers
  numbered_free : (j : ℕ) (p : Point A) (r : ℕ × ℕ) → HasOwnNumber parts more number r → UsedAt parts more (j, p) → IsAtNumber number name j p (Free (number r)) → ◌≡◌ {A = Spot} (j, p) (r.0, Free r.1)
  numbered_free j (Port y a) r own used h = let e : Free (number r) ≡ Port (name j y) a = h in cc
  numbered_free j (Free e) r own used h = ap (λ (z : ℕ × ℕ). (z.0, Free z.1)) (own (j, e) (used e refl) (same_free {A = C} (number (j, e)) (number r) (sym h)))

  abbrev At : Spot → Point C → Type 0
  At p u = IsAtNumber number name p.0 p.1 u

  after_wire : (p q : Spot) (u v : Point C) → At p u → At q v → After p q → m.partner u ≡ Some v
  after_wire p q u v h k g = (joined.wires u v).1 (p, q, h, k, (g.0, g.1, (g.2.0, g.2.1, from_way (glue_wire parts cuts) (IsJointEnd cuts) g.2.0 p g.2.1 g.2.2 q g.2.3)))

  -- a free end in use stays in use
  used_more : (p : Spot) → UsedAt parts cuts p → UsedAt parts more p
  used_more p used e h = elim (used e h) [
    | inl w ↦ inl w
    | inr o ↦ elim o [ inl w ↦ inr (inl w) | inr q ↦ inr (inr (q.0, (is_more.joints q.0 (p.0, e)).1 (inl q.1))) ]
  ]

  wire_after : (u v : Point C) → m.partner u ≡ Some v → (p q : Spot) × At p u × At q v × After p q × UsedAt parts more p × UsedAt parts more q
  wire_after u v e =
      let r = (joined.wires u v).0 e in
      let way = to_way (glue_wire parts cuts) (IsJointEnd cuts) r.4.2.0 r.0 r.4.2.1 r.1 r.4.2.2 in
      (r.0, r.1, r.2, r.3, (r.4.0, r.4.1, (r.4.2.0, r.4.2.1, way.0, way.1)), used_more r.0 (used_first parts cuts r.4.2.0 r.0 r.4.2.1 r.1 r.4.2.2 r.4.0), used_more r.1 (used_last parts cuts r.4.2.0 r.0 r.4.2.1 r.1 r.4.2.2))

  -- the point of a joined end
  end_point : (p : Spot) → EY p → (k : ℕ) × At p (Free k) × ((k ≡ number one) ⊎ (k ≡ number two))
  end_point p (inl e) = (number one, subst (λ z. At z (Free (number one))) (sym e) refl, inl refl)
  end_point p (inr e) = (number two, subst (λ z. At z (Free (number two))) (sym e) refl, inr refl)

  neither : (p : Spot) (u : Point C) → UsedAt parts more p → At p u → SY p → IsNeither (number one) (number two) u
  neither p u used h stays = (
    (λ e. stays (inl (numbered_free p.0 p.1 one own_one used (subst (λ z. At p z) e h)))),
    (λ e. stays (inr (numbered_free p.0 p.1 two own_two used (subst (λ z. At p z) e h)))),
  )

  stays : (p : Spot) (u : Point C) → At p u → IsNeither (number one) (number two) u → SY p
  stays p u h n (inl e) = n.0 (subst (λ z. At z u) e h)
  stays p u h n (inr e) = n.1 (subst (λ z. At z u) e h)

  at_one : (p : Spot) → p ≡ P1 → At p (Free (number one))
  at_one p e = subst (λ z. At z (Free (number one))) (sym e) refl

  at_two : (p : Spot) → p ≡ P2 → At p (Free (number two))
  at_two p e = subst (λ z. At z (Free (number two))) (sym e) refl

  -- a wire between the two ends would come back to the path's start
  no_more : (u : Point C) (a b : ℕ) → m.partner u ≡ Some (Free a) → (u ≡ Free b → ⊥) → (k : ℕ) → (k ≡ a) ⊎ (k ≡ b) → m.partner (Free b) ≡ Some (Free k) → ⊥
  no_more u a b e differ k (inr h) f = m_apart (Free b) (f ∙ ap (λ k. Some (Free k)) h)
  no_more u a b e differ k (inl h) f =
      let far : m.partner (Free a) ≡ Some (Free b) = m_back (Free b) (Free a) (f ∙ ap (λ k. Some (Free k)) h) in
      let near : m.partner (Free a) ≡ Some u = m_back u (Free a) e in
      differ (same_Some u (Free b) (sym near ∙ far))

  made_of : (p q : Spot) (u v : Point C) → UsedAt parts more p → At p u → At q v → SY p → SY q → (s : Side) (es : List Spot) (t : Side) → Way After Y EY s p es t q → ArePartnersAfter m (number one) (number two) u v
  made_of p q u v used h k sp sq Outer [] t w = inl (after_wire p q u v h k w.1)
  made_of p q u v used h k sp sq Inner [] t w = absurd (sp (last_ends p q w.1).0)
  made_of p q u v used h k sp sq Inner (e ∷ es) t w = absurd (sp (last_ends p e w.0).0)
  made_of p q u v used h k sp sq Outer (e ∷ []) t w = absurd (sq (last_ends e q w.2.1).1)
  made_of p q u v used h k sp sq Outer (e ∷ f ∷ []) t w = elim w.2.0 [
    | inl y ↦ inr (inl (after_wire p e u (Free (number one)) h (at_one e y.0) w.0, after_wire f q (Free (number two)) v (at_two f y.1) k w.2.2.1))
    | inr y ↦ inr (inr (after_wire p e u (Free (number two)) h (at_two e y.0) w.0, after_wire f q (Free (number one)) v (at_one f y.1) k w.2.2.1))
  ]
  made_of p q u v used h k sp sq Outer (e ∷ f ∷ g ∷ gs) t w =
      let n = neither p u used h sp in
      let z = end_point g w.2.2.1 in
      absurd (elim w.2.0 [
        | inl y ↦ no_more u (number one) (number two) (after_wire p e u (Free (number one)) h (at_one e y.0) w.0) n.1 z.0 z.2 (after_wire f g (Free (number two)) (Free z.0) (at_two f y.1) z.1 w.2.2.0)
        | inr y ↦ no_more u (number two) (number one) (after_wire p e u (Free (number two)) h (at_two e y.0) w.0) n.0 z.0 (turned z.2) (after_wire f g (Free (number one)) (Free z.0) (at_one f y.1) z.1 w.2.2.0)
      ])

  forth : (u v : Point C) → (p q : Spot) × At p u × At q v × AreLinked parts more p q → IsNeither (number one) (number two) u × IsNeither (number one) (number two) v × ArePartnersAfter m (number one) (number two) u v
  forth u v r =
      let t = linked_then r.0 r.1 r.4 in
      let first = used_first parts more r.4.2.0 r.0 r.4.2.1 r.1 r.4.2.2 r.4.0 in
      let last = used_last parts more r.4.2.0 r.0 r.4.2.1 r.1 r.4.2.2 in
      (neither r.0 u first r.2 t.0, neither r.1 v last r.3 t.1, made_of r.0 r.1 u v first r.2 r.3 t.0 t.1 t.2.0 t.2.1 t.2.2 t.2.3)

  through : (u v : Point C) (x y : ℕ × ℕ) → HasOwnNumber parts more number x → HasOwnNumber parts more number y → Y (x.0, Free x.1) (y.0, Free y.1) → IsNeither (number one) (number two) u → IsNeither (number one) (number two) v → m.partner u ≡ Some (Free (number x)) → m.partner (Free (number y)) ≡ Some v → (p q : Spot) × At p u × At q v × AreLinked parts more p q
  through u v x y own_x own_y joint nu nv e f =
      let a = wire_after u (Free (number x)) e in
      let b = wire_after (Free (number y)) v f in
      let near : a.1 ≡ (x.0, Free x.1) = numbered_free a.1.0 a.1.1 x own_x a.6 a.3 in
      let far : b.0 ≡ (y.0, Free y.1) = numbered_free b.0.0 b.0.1 y own_y b.5 b.2 in
      let first : After a.0 (x.0, Free x.1) = subst (λ z. After a.0 z) near a.4 in
      let last : After (y.0, Free y.1) b.1 = subst (λ z. After z b.1) far b.4 in
      let is_end = last_ends (x.0, Free x.1) (y.0, Free y.1) joint in
      (a.0, b.1, a.2, b.3, then_linked a.0 b.1 (stays a.0 u a.2 nu, stays b.1 v b.3 nv, (Outer, (x.0, Free x.1) ∷ (y.0, Free y.1) ∷ [], Outer, (first, is_end.0, (joint, is_end.1, (refl, last))))))

  again : (u v : Point C) → IsNeither (number one) (number two) u × IsNeither (number one) (number two) v × ArePartnersAfter m (number one) (number two) u v → (p q : Spot) × At p u × At q v × AreLinked parts more p q
  again u v r = go r.2
    where
      go : ArePartnersAfter m (number one) (number two) u v → (p q : Spot) × At p u × At q v × AreLinked parts more p q
      go (inl e) =
          let a = wire_after u v e in
          (a.0, a.1, a.2, a.3, then_linked a.0 a.1 (stays a.0 u a.2 r.0, stays a.1 v a.3 r.1, (Outer, [], Outer, (refl, a.4))))
      go (inr (inl e)) = through u v one two own_one own_two (inl (refl, refl)) r.0 r.1 e.0 e.1
      go (inr (inr e)) = through u v two one own_two own_one (inr (refl, refl)) r.0 r.1 e.0 e.1

  next : IsJoinedBy parts name number more w
  next = record {
    agents = λ y s. ((λ e. (joined.agents y s).0 ((ends.agents y s).0 e)), (λ h. (ends.agents y s).1 ((joined.agents y s).1 h)));
    wires = λ u v. ((λ e. again u v ((ends.wires u v).0 e)), (λ r. (ends.wires u v).1 (forth u v r)));
  }

pub joins_next : JoinsNext
joins_next parts name number cuts more one two m w own_one own_two back lead joined is_more ends =
    next parts name number cuts more one two m w
    (record { own_one = own_one; own_two = own_two; back = back; m_back = lead.0; m_apart = lead.1; joined = joined; is_more = is_more; ends = ends })
