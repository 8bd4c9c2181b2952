-- An interaction of one part is one of the whole: inside, wires go through the right member, and round the parts through joints.
use Rattle.std.proofs.Common.{◌≡◌, ◌≢◌, ◌⊎◌, ℕ, Bool, true, false, cond, Option, Some, None, List, [], ◌∷◌, map, slice_get, refl, sym, subst, ap, inl, inr, ◌∙◌}
use native.Mathlib.Decide.{ℕ_discrete}
use mathlib.Core.Path.{fun_ext}
use Rattle.std.proofs.lemmas.Option.{same_Some}
use Rattle.in_net.specs.Interactions.{Redex, Side, Outer, Inner, of_first, end_place, Alternates, stands_for, InnerWire, wire_of, IsOfPair, AreJoined, IsNaming, IsStep}
use Rattle.in_net.specs.Nets.{Point, Port, Free, Signature, Net}
use Rattle.in_net.proofs.Public.{port_agent, port_place}
use Rattle.in_interaction.proofs.Public.{same_free}
use Rattle.in_gluing.specs.Gluing.{Cuts, IsJointEndAt, IsJointEnd, glue_wire, AreLinked, IsPlaced, AreAllApart, IsGlued, placed_pair, AreOthers}
use Rattle.in_gluing.specs.Laws.{FramesStep, FramesGlue}
use Rattle.in_gluing.proofs.Points.{turned}
use Rattle.in_gluing.proofs.Commute.{Way, AreIndependent, After_x, Then_y, AtOnce, join, split}
use Rattle.in_gluing.proofs.AtNets.{to_way, from_way, way_map}

-- the specification's paths are ways
-- outer wires may be replaced
swap_way : {P : Type 0} (W X Y : P → P → Type 0) (EX EY : P → Type 0) (s : Side) (u : P) (es : List P) (t : Side) (v : P) → Way W (λ u v. X u v ⊎ Y u v) (λ u. EX u ⊎ EY u) s u es t v → Way W (λ u v. Y u v ⊎ X u v) (λ u. EY u ⊎ EX u) s u es t v
swap_way W X Y EX EY Outer u [] t v w = w
swap_way W X Y EX EY Inner u [] t v w = (w.0, turned w.1)
swap_way W X Y EX EY Outer u (e ∷ es) t v w = (w.0, turned w.1, swap_way W X Y EX EY Inner e es t v w.2)
swap_way W X Y EX EY Inner u (e ∷ es) t v w = (turned w.0, turned w.1, swap_way W X Y EX EY Outer e es t v w.2)

pub map_some : {T : Type 0} (xs ys : List T) → map (λ t. Some t) xs ≡ map (λ t. Some t) ys → xs ≡ ys
map_some [] [] e = refl
map_some [] (y ∷ ys) e = cc
map_some (x ∷ xs) [] e = cc
map_some (x ∷ xs) (y ∷ ys) e =
    let head : Some x ≡ Some y = cc in
    let tail : map (λ t. Some t) xs ≡ map (λ t. Some t) ys = cc in
    let rest : xs ≡ ys = map_some xs ys tail in
    let first : x ≡ y = same_Some x y head in
    cc

module _ {A B C : Type 0} (sig : Signature) (parts : ℕ → Net A) (name : ℕ → A → C) (cuts : Cuts) (i : ℕ) (x : Redex A B) (new : B → A) where
  -- the relation that joins points of the parts
  abbrev Joined : Type 1
  Joined = ℕ × Point A → ℕ × Point A → Type 0

  -- the wires of the parts and of the right member, and the joints
  abbrev W : Joined
  W p q = glue_wire parts cuts Outer p q

  abbrev X : Joined
  X p q = (p.0 ≡ i) × (q.0 ≡ i) × InnerWire sig x new p.1 q.1

  abbrev Y : Joined
  Y p q = glue_wire parts cuts Inner p q

  -- the ports of the pair, and the joined free ends
  abbrev EX : ℕ × Point A → Type 0
  EX p = (p.0 ≡ i) × IsOfPair x p.1

  abbrev EY : ℕ × Point A → Type 0
  EY p = IsJointEnd cuts p

  abbrev SX : ℕ × Point A → Type 0
  SX p = EX p → ⊥

  abbrev SY : ℕ × Point A → Type 0
  SY p = EY p → ⊥

  member_no_cut : (m : Point B) (j : ℕ) → IsJointEndAt cuts j (stands_for sig x new m) → ⊥
  member_no_cut (Port k l) j h = h
  member_no_cut (Free e) j h = h

  pair_no_cut : (j : ℕ) (u : Point A) → IsOfPair x u → IsJointEndAt cuts j u → ⊥
  pair_no_cut j (Port y k) h c = c
  pair_no_cut j (Free e) h c = h

  inner_no_cut : (p q : ℕ × Point A) → X p q → (EY p → ⊥) × (EY q → ⊥)
  inner_no_cut p q w = (
    (λ h. member_no_cut w.2.0 p.0 (subst (λ u. IsJointEndAt cuts p.0 u) (sym w.2.2) h)),
    (λ h. member_no_cut w.2.1 q.0 (subst (λ u. IsJointEndAt cuts q.0 u) (sym w.2.3) h)),
  )

  joint_no_pair : (p q : ℕ × Point A) → Y p q → (EX p → ⊥) × (EX q → ⊥)
  joint_no_pair p q w = (
    (λ h. subst (λ u. IsOfPair x u) w.2 h.1),
    (λ h. subst (λ u. IsOfPair x u) w.3 h.1),
  )

  independent : AreIndependent W X Y EX EY SX SY
  independent = record {
    x_avoids = λ p q w. (let r = inner_no_cut p q w in (r.0, r.1, r.0, r.1));
    y_avoids = λ p q w. (let r = joint_no_pair p q w in (r.0, r.1, r.0, r.1));
    x_stays = λ p h c. pair_no_cut p.0 p.1 h.1 c;
    y_stays = λ p c h. pair_no_cut p.0 p.1 h.1 c;
  }

  independent_too : AreIndependent W Y X EY EX SY SX
  independent_too = record {
    x_avoids = λ p q w. (let r = joint_no_pair p q w in (r.0, r.1, r.0, r.1));
    y_avoids = λ p q w. (let r = inner_no_cut p q w in (r.0, r.1, r.0, r.1));
    x_stays = λ p c h. pair_no_cut p.0 p.1 h.1 c;
    y_stays = λ p h c. pair_no_cut p.0 p.1 h.1 c;
  }

  -- ---- within the part, and outside it

  way_within : (s : Side) (p : ℕ × Point A) (es : List (ℕ × Point A)) (t : Side) (q : ℕ × Point A) → p.0 ≡ i → Way W X EX s p es t q → (q.0 ≡ i) × ((fs : List (Point A)) × Alternates (wire_of sig (parts i) x new) (IsOfPair x) s p.1 fs q.1)
  way_within Outer p [] t q h w = (sym w.1.0 ∙ h, ([], subst (λ j. (parts j).partner p.1 ≡ Some q.1) h w.1.1))
  way_within Inner p [] t q h w = (w.1.1, ([], w.1.2))
  way_within Outer p (e ∷ es) t q h w =
      let r = way_within Inner e es t q w.1.0 w.2 in
      (r.0, (e.1 ∷ r.1.0, (subst (λ j. (parts j).partner p.1 ≡ Some e.1) h w.0.1, w.1.1, r.1.1)))
  way_within Inner p (e ∷ es) t q h w =
      let r = way_within Outer e es t q w.1.0 w.2 in
      (r.0, (e.1 ∷ r.1.0, (w.0.2, w.1.1, r.1.1)))

  way_outside : (s : Side) (p : ℕ × Point A) (es : List (ℕ × Point A)) (t : Side) (q : ℕ × Point A) → (p.0 ≡ i → ⊥) → Way W X EX s p es t q → W p q
  way_outside Outer p [] t q h w = w.1
  way_outside Inner p [] t q h w = absurd (h w.1.0)
  way_outside Outer p (e ∷ es) t q h w = absurd (h (w.0.0 ∙ w.1.0))
  way_outside Inner p (e ∷ es) t q h w = absurd (h w.0.0)

  lift : (s : Side) (u : Point A) (es : List (Point A)) (v : Point A) → Alternates (wire_of sig (parts i) x new) (IsOfPair x) s u es v → (fs : List (ℕ × Point A)) × (t : Side) × Way W X EX s (i, u) fs t (i, v)
  lift Outer u [] v w = ([], Outer, (refl, (refl, w)))
  lift Inner u [] v w = ([], Inner, (refl, (refl, refl, w)))
  lift Outer u (e ∷ es) v w = let r = lift Inner e es v w.2 in ((i, e) ∷ r.0, r.1, ((refl, w.0), (refl, w.1), r.2))
  lift Inner u (e ∷ es) v w = let r = lift Outer e es v w.2 in ((i, e) ∷ r.0, r.1, ((refl, refl, w.0), (refl, w.1), r.2))

  module _ (after : ℕ → Net A) (step : IsStep sig (parts i) x new (after i)) (others : AreOthers i parts after) where
    wire_after : (p q : ℕ × Point A) → After_x W X Y EX EY SX SY p q → glue_wire after cuts Outer p q
    wire_after p q j = go (ℕ_discrete p.0 i)
      where
        go : Dec (p.0 ≡ i) → glue_wire after cuts Outer p q
        go (yes h) =
            let r = way_within j.2.0 p j.2.1 j.2.2 q h j.2.3 in
            let w : (after i).partner p.1 ≡ Some q.1 = (step.wires p.1 q.1).1 ((λ e. j.0 (h, e)), (λ e. j.1 (r.0, e)), (j.2.0, r.1.0, r.1.1)) in
            (h ∙ sym r.0, subst (λ k. (after k).partner p.1 ≡ Some q.1) (sym h) w)
        go (no h) = let w = way_outside j.2.0 p j.2.1 j.2.2 q h j.2.3 in (w.0, ap (λ n. n.partner p.1) (others p.0 h) ∙ w.1)

    wire_before : (p q : ℕ × Point A) → glue_wire after cuts Outer p q → After_x W X Y EX EY SX SY p q
    wire_before p q g = go (ℕ_discrete p.0 i)
      where
        go : Dec (p.0 ≡ i) → After_x W X Y EX EY SX SY p q
        go (yes h) =
            let j = (step.wires p.1 q.1).0 (subst (λ k. (after k).partner p.1 ≡ Some q.1) h g.1) in
            let r = lift j.2.0 p.1 j.2.1 q.1 j.2.2 in
            let near : Way W X EX j.2.0 p r.0 r.1 (i, q.1) = subst (λ k. Way W X EX j.2.0 (k, p.1) r.0 r.1 (i, q.1)) (sym h) r.2 in
            let far : Way W X EX j.2.0 p r.0 r.1 q = subst (λ k. Way W X EX j.2.0 p r.0 r.1 (k, q.1)) (sym h ∙ g.0) near in
            ((λ e. j.0 e.1), (λ e. j.1 e.1), (j.2.0, r.0, r.1, far))
        go (no h) = ((λ e. h e.0), (λ e. h (g.0 ∙ e.0)), (Outer, [], Outer, (refl, (g.0, ap (λ n. n.partner p.1) (sym (others p.0 h)) ∙ g.1))))

    to_then : (p q : ℕ × Point A) → AreLinked after cuts p q → Then_y W X Y EX EY SX SY p q
    to_then p q l =
        let w = to_way (glue_wire after cuts) (IsJointEnd cuts) l.2.0 p l.2.1 q l.2.2 in
        (l.0, l.1, (l.2.0, l.2.1, w.0, way_map (glue_wire after cuts Outer) (After_x W X Y EX EY SX SY) Y EY wire_before l.2.0 p l.2.1 w.0 q w.1))

    from_then : (p q : ℕ × Point A) → Then_y W X Y EX EY SX SY p q → AreLinked after cuts p q
    from_then p q l =
        (l.0, l.1, (l.2.0, l.2.1, from_way (glue_wire after cuts) (IsJointEnd cuts) l.2.0 p l.2.1 l.2.2 q (way_map (After_x W X Y EX EY SX SY) (glue_wire after cuts Outer) Y EY wire_after l.2.0 p l.2.1 l.2.2 q l.2.3)))

    -- joints first and then the interaction
    abbrev G : Joined
    G = After_x W Y X EY EX SY SX

    joints_first : (p q : ℕ × Point A) → AreLinked after cuts p q → Then_y W Y X EY EX SY SX p q
    joints_first p q l =
        let a : AtOnce W X Y EX EY SX SY p q = join W X Y EX EY SX SY independent p q (to_then p q l) in
        split W Y X EY EX SY SX independent_too p q ((a.0.1, a.0.0), (a.1.1, a.1.0), (a.2.0, a.2.1, a.2.2, swap_way W X Y EX EY a.2.0 p a.2.1 a.2.2 q a.2.3))

    joints_last : (p q : ℕ × Point A) → Then_y W Y X EY EX SY SX p q → AreLinked after cuts p q
    joints_last p q l =
        let a : AtOnce W Y X EY EX SY SX p q = join W Y X EY EX SY SX independent_too p q l in
        from_then p q (split W X Y EX EY SX SY independent p q ((a.0.1, a.0.0), (a.1.1, a.1.0), (a.2.0, a.2.1, a.2.2, swap_way W Y X EY EX a.2.0 p a.2.1 a.2.2 q a.2.3)))

    -- ---- in the whole

    module _ (apart : AreAllApart name) (whole : Net C) (glued : IsGlued parts name cuts whole) where
      abbrev x' : Redex C B
      x' = placed_pair name i x

      abbrev new' : B → C
      new' k = name i (new k)

      placed_once : (j : ℕ) (p : Point A) (k : ℕ) (q : Point A) (u : Point C) → IsPlaced cuts name j p u → IsPlaced cuts name k q u → ◌≡◌ {A = ℕ × Point A} (j, p) (k, q)
      placed_once j (Port y a) k (Port z b) u h g =
          let e : Port (name j y) a ≡ Port (name k z) b = sym h ∙ g in
          let n = apart j k y z (port_agent (name j y) (name k z) a b e) in
          let place : a ≡ b = port_place (name j y) (name k z) a b e in
          ap (λ (j : ℕ). (j, Port y a)) n.0 ∙ ap (λ (y : A). (k, Port y a)) n.1 ∙ ap (λ (a : ℕ). (k, Port z a)) place
      placed_once j (Port y a) k (Free f) u h g = let e : Port (name j y) a ≡ Free g.0 = sym h ∙ g.1 in cc
      placed_once j (Free e) k (Port z b) u h g = let e : Port (name k z) b ≡ Free h.0 = sym g ∙ h.1 in cc
      placed_once j (Free e) k (Free f) u h g =
          let n : h.0 ≡ g.0 = same_free {A = C} h.0 g.0 (sym h.1 ∙ g.1) in
          let s : (j, e) ≡ (k, f) = same_Some (j, e) (k, f) (sym h.2 ∙ ap (λ n. slice_get cuts.outer n) n ∙ g.2) in
          ap (λ (z : ℕ × ℕ). (z.0, Free z.1)) s

      cond_placed : (b : Bool) (y z : A) → cond b (name i y) (name i z) ≡ name i (cond b y z)
      cond_placed true y z = refl
      cond_placed false y z = refl

      member_placed : (m : Point B) → IsPlaced cuts name i (stands_for sig x new m) (stands_for sig x' new' m)
      member_placed (Port k l) = refl
      member_placed (Free e) = ap (λ y. Port y (end_place sig x e)) (cond_placed (of_first sig x e) x.one x.two)

      -- the ports of the pair, of the part and of the whole
      pair_forth : (p : Point A) → IsOfPair x p → (w : Point C) × IsPlaced cuts name i p w × IsOfPair x' w
      pair_forth (Port y k) (inl h) = (Port (name i y) k, refl, inl (ap (name i) h))
      pair_forth (Port y k) (inr h) = (Port (name i y) k, refl, inr (ap (name i) h))
      pair_forth (Free e) h = absurd h

      pair_back : (j : ℕ) (p : Point A) (w : Point C) → IsPlaced cuts name j p w → IsOfPair x' w → (j ≡ i) × IsOfPair x p
      pair_back j (Port y k) w h o = go (subst (λ w. IsOfPair x' w) h o)
        where
          go : (name j y ≡ name i x.one) ⊎ (name j y ≡ name i x.two) → (j ≡ i) × IsOfPair x (Port y k)
          go (inl e) = let n = apart j i y x.one e in (n.0, inl n.1)
          go (inr e) = let n = apart j i y x.two e in (n.0, inr n.1)
      pair_back j (Free e) w h o = absurd (subst (λ w. IsOfPair x' w) h.1 o)

      is_pair : (j : ℕ) (p : Point A) (w : Point C) → IsPlaced cuts name j p w → j ≡ i → IsOfPair x p → IsOfPair x' w
      is_pair j (Port y k) w h e (inl g) = subst (λ w. IsOfPair x' w) (sym h) (inl (ap (λ j. name j y) e ∙ ap (name i) g))
      is_pair j (Port y k) w h e (inr g) = subst (λ w. IsOfPair x' w) (sym h) (inr (ap (λ j. name j y) e ∙ ap (name i) g))
      is_pair j (Free f) w h e g = absurd g

      -- single wires
      wire_forth : (p q : ℕ × Point A) (u v : Point C) → IsPlaced cuts name p.0 p.1 u → IsPlaced cuts name q.0 q.1 v → G p q → whole.partner u ≡ Some v
      wire_forth p q u v h k g = (glued.wires u v).1 (p, q, h, k, (g.0, g.1, (g.2.0, g.2.1, from_way (glue_wire parts cuts) (IsJointEnd cuts) g.2.0 p g.2.1 g.2.2 q g.2.3)))

      wire_back : (p : ℕ × Point A) (u v : Point C) → IsPlaced cuts name p.0 p.1 u → whole.partner u ≡ Some v → (q : ℕ × Point A) × IsPlaced cuts name q.0 q.1 v × G p q
      wire_back p u v h e =
          let r = (glued.wires u v).0 e in
          let same : r.0 ≡ p = placed_once r.0.0 r.0.1 p.0 p.1 u r.2 h in
          let l = r.4 in
          let w = to_way (glue_wire parts cuts) (IsJointEnd cuts) l.2.0 r.0 l.2.1 r.1 l.2.2 in
          (r.1, r.3, subst (λ z. G z r.1) same (l.0, l.1, (l.2.0, l.2.1, w.0, w.1)))

      is_member : (m : Point B) (p : ℕ × Point A) (u : Point C) → p.0 ≡ i → stands_for sig x new m ≡ p.1 → IsPlaced cuts name p.0 p.1 u → stands_for sig x' new' m ≡ u
      is_member m p u h e g = go m (subst (λ z. IsPlaced cuts name i z u) (sym e) (subst (λ j. IsPlaced cuts name j p.1 u) h g))
        where
          go : (m : Point B) → IsPlaced cuts name i (stands_for sig x new m) u → stands_for sig x' new' m ≡ u
          go (Port k l) g = sym g
          go (Free f) g = member_placed (Free f) ∙ sym g

      inner_forth : (p q : ℕ × Point A) (u v : Point C) → IsPlaced cuts name p.0 p.1 u → IsPlaced cuts name q.0 q.1 v → X p q → InnerWire sig x' new' u v
      inner_forth p q u v h k w = (w.2.0, w.2.1, is_member w.2.0 p u w.0 w.2.2 h, is_member w.2.1 q v w.1 w.2.3 k, w.2.4)

      at_member : (m : Point B) (u : Point C) → stands_for sig x' new' m ≡ u → IsPlaced cuts name i (stands_for sig x new m) u
      at_member m u e = subst (λ u. IsPlaced cuts name i (stands_for sig x new m) u) e (member_placed m)

      inner_back : (p : ℕ × Point A) (u v : Point C) → IsPlaced cuts name p.0 p.1 u → InnerWire sig x' new' u v → (q : ℕ × Point A) × IsPlaced cuts name q.0 q.1 v × X p q
      inner_back p u v h w =
          let here : ℕ × Point A = (i, stands_for sig x new w.0) in
          let there : ℕ × Point A = (i, stands_for sig x new w.1) in
          let same : here ≡ p = placed_once i (stands_for sig x new w.0) p.0 p.1 u (at_member w.0 u w.2) h in
          let wire : X here there = (refl, refl, (w.0, w.1, refl, refl, w.4)) in
          (there, at_member w.1 v w.3, subst (λ z. X z there) same wire)

      -- paths
      path_forth : (s : Side) (p : ℕ × Point A) (es : List (ℕ × Point A)) (t : Side) (q : ℕ × Point A) (u v : Point C) → IsPlaced cuts name p.0 p.1 u → IsPlaced cuts name q.0 q.1 v → Way G X EX s p es t q → (fs : List (Point C)) × Alternates (wire_of sig whole x' new') (IsOfPair x') s u fs v
      path_forth Outer p [] t q u v h k w = ([], wire_forth p q u v h k w.1)
      path_forth Inner p [] t q u v h k w = ([], inner_forth p q u v h k w.1)
      path_forth Outer p (e ∷ es) t q u v h k w =
          let o = pair_forth e.1 w.1.1 in
          let at : IsPlaced cuts name e.0 e.1 o.0 = subst (λ j. IsPlaced cuts name j e.1 o.0) (sym w.1.0) o.1 in
          let r = path_forth Inner e es t q o.0 v at k w.2 in
          (o.0 ∷ r.0, (wire_forth p e u o.0 h at w.0, o.2, r.1))
      path_forth Inner p (e ∷ es) t q u v h k w =
          let o = pair_forth e.1 w.1.1 in
          let at : IsPlaced cuts name e.0 e.1 o.0 = subst (λ j. IsPlaced cuts name j e.1 o.0) (sym w.1.0) o.1 in
          let r = path_forth Outer e es t q o.0 v at k w.2 in
          (o.0 ∷ r.0, (inner_forth p e u o.0 h at w.0, o.2, r.1))

      path_back : (s : Side) (u : Point C) (fs : List (Point C)) (v : Point C) (p : ℕ × Point A) → IsPlaced cuts name p.0 p.1 u → Alternates (wire_of sig whole x' new') (IsOfPair x') s u fs v → (q : ℕ × Point A) × IsPlaced cuts name q.0 q.1 v × ((es : List (ℕ × Point A)) × (t : Side) × Way G X EX s p es t q)
      path_back Outer u [] v p h w = let r = wire_back p u v h w in (r.0, r.1, ([], Outer, (refl, r.2)))
      path_back Inner u [] v p h w = let r = inner_back p u v h w in (r.0, r.1, ([], Inner, (refl, r.2)))
      path_back Outer u (f ∷ fs) v p h w =
          let r = wire_back p u f h w.0 in
          let o = pair_back r.0.0 r.0.1 f r.1 w.1 in
          let k = path_back Inner f fs v r.0 r.1 w.2 in
          (k.0, k.1, (r.0 ∷ k.2.0, k.2.1, (r.2, o, k.2.2)))
      path_back Inner u (f ∷ fs) v p h w =
          let r = inner_back p u f h w.0 in
          let o = pair_back r.0.0 r.0.1 f r.1 w.1 in
          let k = path_back Outer f fs v r.0 r.1 w.2 in
          (k.0, k.1, (r.0 ∷ k.2.0, k.2.1, (r.2, o, k.2.2)))

      start : (s : Side) (u : Point C) (fs : List (Point C)) (v : Point C) → Alternates (wire_of sig whole x' new') (IsOfPair x') s u fs v → (p : ℕ × Point A) × IsPlaced cuts name p.0 p.1 u
      start Outer u [] v w = let r = (glued.wires u v).0 w in (r.0, r.2)
      start Outer u (f ∷ fs) v w = let r = (glued.wires u f).0 w.0 in (r.0, r.2)
      start Inner u [] v w = ((i, stands_for sig x new w.0), at_member w.0 u w.2)
      start Inner u (f ∷ fs) v w = ((i, stands_for sig x new w.0.0), at_member w.0.0 u w.0.2)

      -- points that are linked in the parts after are joined in the whole, and the other way round
      joined_forth : (u v : Point C) → (p q : ℕ × Point A) × IsPlaced cuts name p.0 p.1 u × IsPlaced cuts name q.0 q.1 v × AreLinked after cuts p q → AreJoined sig whole x' new' u v
      joined_forth u v h =
          let c = joints_first h.0 h.1 h.4 in
          let r = path_forth c.2.0 h.0 c.2.1 c.2.2 h.1 u v h.2 h.3 c.2.3 in
          ((λ o. c.0 (pair_back h.0.0 h.0.1 u h.2 o)), (λ o. c.1 (pair_back h.1.0 h.1.1 v h.3 o)), (c.2.0, r.0, r.1))

      joined_back : (u v : Point C) → AreJoined sig whole x' new' u v → (p q : ℕ × Point A) × IsPlaced cuts name p.0 p.1 u × IsPlaced cuts name q.0 q.1 v × AreLinked after cuts p q
      joined_back u v j =
          let a = start j.2.0 u j.2.1 v j.2.2 in
          let r = path_back j.2.0 u j.2.1 v a.0 a.1 j.2.2 in
          (a.0, r.0, a.1, r.1, joints_last a.0 r.0 ((λ e. j.0 (is_pair a.0.0 a.0.1 u a.1 e.0 e.1)), (λ e. j.1 (is_pair r.0.0 r.0.1 v r.1 e.0 e.1)), (j.2.0, r.2.0, r.2.1, r.2.2)))

      -- agents

      agents_forth : (y : C) (s : ℕ) → (j : ℕ) × (a : A) × (name j a ≡ y) × ((after j).symbol a ≡ Some s) → ((y ≢ x'.one) × (y ≢ x'.two) × (whole.symbol y ≡ Some s)) ⊎ ((k : B) × (new' k ≡ y) × (x'.member.symbol k ≡ Some s))
      agents_forth y s h = go (ℕ_discrete h.0 i)
        where
          go : Dec (h.0 ≡ i) → ((y ≢ x'.one) × (y ≢ x'.two) × (whole.symbol y ≡ Some s)) ⊎ ((k : B) × (new' k ≡ y) × (x'.member.symbol k ≡ Some s))
          go (yes e) =
              elim ((step.agents h.1 s).0 (subst (λ j. (after j).symbol h.1 ≡ Some s) e h.3)) [
                | inl r ↦ inl (
                  (λ o. r.0 (apart h.0 i h.1 x.one (h.2 ∙ o)).1),
                  (λ o. r.1 (apart h.0 i h.1 x.two (h.2 ∙ o)).1),
                  (glued.agents y s).1 (i, h.1, ap (λ j. name j h.1) (sym e) ∙ h.2, r.2),
                )
                | inr r ↦ inr (r.0, ap (name i) r.1 ∙ ap (λ j. name j h.1) (sym e) ∙ h.2, r.2)
              ]
          go (no d) =
              inl (
                (λ o. d (apart h.0 i h.1 x.one (h.2 ∙ o)).0),
                (λ o. d (apart h.0 i h.1 x.two (h.2 ∙ o)).0),
                (glued.agents y s).1 (h.0, h.1, h.2, ap (λ n. n.symbol h.1) (sym (others h.0 d)) ∙ h.3),
              )

      agents_back : (y : C) (s : ℕ) → ((y ≢ x'.one) × (y ≢ x'.two) × (whole.symbol y ≡ Some s)) ⊎ ((k : B) × (new' k ≡ y) × (x'.member.symbol k ≡ Some s)) → (j : ℕ) × (a : A) × (name j a ≡ y) × ((after j).symbol a ≡ Some s)
      agents_back y s (inr r) = (i, new r.0, r.1, (step.agents (new r.0) s).1 (inr (r.0, refl, r.2)))
      agents_back y s (inl r) = go ((glued.agents y s).0 r.2)
        where
          go : (j : ℕ) × (a : A) × (name j a ≡ y) × ((parts j).symbol a ≡ Some s) → (j : ℕ) × (a : A) × (name j a ≡ y) × ((after j).symbol a ≡ Some s)
          go h = at (ℕ_discrete h.0 i)
            where
              at : Dec (h.0 ≡ i) → (j : ℕ) × (a : A) × (name j a ≡ y) × ((after j).symbol a ≡ Some s)
              at (yes e) = (
                i,
                h.1,
                ap (λ j. name j h.1) (sym e) ∙ h.2,
                (step.agents h.1 s).1 (inl (
                  (λ o. r.0 (sym h.2 ∙ ap (λ j. name j h.1) e ∙ ap (name i) o)),
                  (λ o. r.1 (sym h.2 ∙ ap (λ j. name j h.1) e ∙ ap (name i) o)),
                  subst (λ j. (parts j).symbol h.1 ≡ Some s) e h.3,
                )),
              )
              at (no d) = (h.0, h.1, h.2, ap (λ n. n.symbol h.1) (others h.0 d) ∙ h.3)

      pub naming : IsNaming whole x' new'
      naming = record {
        fresh = λ k s h. none k s h (whole.symbol (new' k)) refl;
        apart = λ k l s t h g e. step.naming.apart k l s t h g (apart i i (new k) (new l) e).1;
      }
        where
          none : (k : B) (s : ℕ) → x.member.symbol k ≡ Some s → (o : Option ℕ) → whole.symbol (new' k) ≡ o → whole.symbol (new' k) ≡ None
          none k s h None e = e
          none k s h (Some t) e =
              let r = (glued.agents (new' k) t).0 e in
              let n = apart r.0 i r.1 (new k) r.2 in
              let there : (parts i).symbol (new k) ≡ Some t = subst (λ j. (parts j).symbol (new k) ≡ Some t) n.0 (ap (λ a. (parts r.0).symbol a) (sym n.1) ∙ r.3) in
              let gone : (parts i).symbol (new k) ≡ None = step.naming.fresh k s h in
              cc

      free_kept : (j : ℕ) → (after j).free ≡ (parts j).free
      free_kept j = go (ℕ_discrete j i)
        where
          go : Dec (j ≡ i) → (after j).free ≡ (parts j).free
          go (yes e) = ap (λ j. (after j).free) e ∙ step.free ∙ ap (λ j. (parts j).free) (sym e)
          go (no d) = ap (λ n. n.free) (others j d)

      kinds_kept : map (λ p. slice_get (after p.0).free p.1) cuts.outer ≡ map (λ p. slice_get (parts p.0).free p.1) cuts.outer
      kinds_kept = ap (λ f. map (λ p. slice_get (f p.0) p.1) cuts.outer) (fun_ext free_kept)

      step_of_glued : (whole_after : Net C) → IsGlued after name cuts whole_after → IsStep sig whole x' new' whole_after
      step_of_glued wa ga = record {
        naming = naming;
        agents = λ y s. ((λ e. agents_forth y s ((ga.agents y s).0 e)), (λ h. (ga.agents y s).1 (agents_back y s h)));
        wires = λ u v. ((λ e. joined_forth u v ((ga.wires u v).0 e)), (λ j. (ga.wires u v).1 (joined_back u v j)));
        free = map_some wa.free whole.free (ga.free ∙ kinds_kept ∙ sym glued.free);
      }

      pub glued_of_step : (whole_after : Net C) → IsStep sig whole x' new' whole_after → IsGlued after name cuts whole_after
      glued_of_step wa st = record {
        agents = λ y s. ((λ e. agents_back y s ((st.agents y s).0 e)), (λ h. (st.agents y s).1 (agents_forth y s h)));
        wires = λ u v. ((λ e. joined_back u v ((st.wires u v).0 e)), (λ h. (st.wires u v).1 (joined_forth u v h)));
        free = ap (λ ts. map (λ t. Some t) ts) st.free ∙ glued.free ∙ sym kinds_kept;
      }

pub frames_step : FramesStep
frames_step sig parts after name cuts i x new whole wa apart glued step others ga = step_of_glued sig parts name cuts i x new after step others apart whole glued wa ga

pub frames_glue : FramesGlue
frames_glue sig parts after name cuts i x new whole wa apart glued step others st = glued_of_step sig parts name cuts i x new after step others apart whole glued wa st
