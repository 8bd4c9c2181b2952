-- Overwriting is interacting, if no wire leads back to the pair.
use Rattle.std.proofs.Common.{◌≡◌, ◌≢◌, ◌⊎◌, ◌+◌, ◌<◌, ℕ, suc, Option, Some, None, [], length, refl, sym, subst, ap, inl, inr, ◌∙◌}
use native.Mathlib.Decide.{ℕ_discrete}
use Rattle.std.proofs.lemmas.Option.{none-some}
use Rattle.in_net.specs.Nets.{Point, Port, Free, Signature, Net, IsNet}
use Rattle.in_net.specs.Interactions.{Redex, IsRedex, Side, Outer, Inner, stands_for, InnerWire, wire_of, IsOfPair, AreJoined, IsNaming, IsStep, end_agent, end_place}
use Rattle.in_base.proofs.Options.{none_of}
use Rattle.in_net.proofs.Public.{end_of_pair, first_wire}
use Rattle.in_interaction.proofs.Public.{has_value, is_net, outer_at, outer_next, same_option, step_exists, one_result}
use Rattle.in_interaction.proofs.Public.Through as through
use Rattle.in_overwriting.specs.Overwriting.{CanOverwrite, IsSideAt, AreSidesOf, IsSide, IsOverwritten, StepsAreOverwritten, OverwrittenExists, OverwrittenIsOne, OverwrittenLeadsNoneBack}
use Rattle.in_overwriting.proofs.Overwriting.Sides as sides

module _ (sig : Signature) (n : Net ℕ) (x : Redex ℕ ℕ) (name : ℕ → ℕ) (can : CanOverwrite sig n x name) where
  abbrev Stays : Point ℕ → Type 0
  Stays u = IsOfPair x u → ⊥

  abbrev pt : ℕ → Point ℕ
  pt = sides.pt sig n x name can

  abbrev Joined : Point ℕ → Point ℕ → Type 0
  Joined = AreJoined sig n x name

  abbrev Sides : Point ℕ → Point ℕ → Type 0
  Sides = AreSidesOf x.member (IsSideAt sig n x name)

  abbrev AtSide : Point ℕ → Type 0
  AtSide = IsSide sig n x name

  of_pair : (u : Point ℕ) → IsOfPair x u ⊎ Stays u
  of_pair (Free k) = inr (λ h. h)
  of_pair (Port y i) = go (ℕ_discrete y x.one) (ℕ_discrete y x.two)
    where
      go : Dec (y ≡ x.one) → Dec (y ≡ x.two) → IsOfPair x (Port y i) ⊎ Stays (Port y i)
      go (yes e) two = inl (inl e)
      go (no d) (yes e) = inl (inr e)
      go (no d) (no e) = inr (λ h. elim h [ inl a ↦ d a | inr b ↦ e b ])

  -- the side at a point is one of two
  at_side : (p q u : Point ℕ) → x.member.partner p ≡ Some q → sides.At sig n x name can p u → AtSide u
  at_side p q u w s = let v = sides.standing sig n x name can q (sides.far sig n x name can p q w) in (v.0, (p, q, w, s, v.1))

  inner_side : (u f : Point ℕ) → Stays u → InnerWire sig x name u f → AtSide u
  inner_side u f hu w = go w.0 w.2 w.4
    where
      go : (p : Point ℕ) → stands_for sig x name p ≡ u → x.member.partner p ≡ Some w.1 → AtSide u
      go (Port k i) s e = at_side (Port k i) w.1 u e (sym s)
      go (Free c) s e = absurd (hu (subst (IsOfPair x) s (end_of_pair sig n x name can.net can.inside can.redex can.naming c)))

  pair_side : (u f : Point ℕ) → Stays u → n.partner u ≡ Some f → IsOfPair x f → AtSide u
  pair_side u f hu w o =
      elim (outer_next sig n x name can.net can.inside can.redex can.naming ℕ_discrete u f w (λ e. hu (subst (IsOfPair x) (sym e) (inl refl))) (λ e. hu (subst (IsOfPair x) (sym e) (inr refl)))) [
        | inl stays ↦ absurd (stays o)
        | inr d ↦ (
            let q = has_value (x.member.partner (Free d.0)) (can.inside.joined (Free d.0) (subst (λ m. d.0 < m) (sym can.redex.ends) d.1)) in
            at_side (Free d.0) q.0 u q.1 (can.net.back u (pt d.0) (w ∙ ap (λ v. Some v) d.2))
            )
      ]

  not_at_side : (u f : Point ℕ) → n.partner u ≡ Some f → Stays f → AtSide u → ⊥
  not_at_side u f w hf s = sides.no_side sig n x name can s.1.0 u f (sides.near sig n x name can s.1.0 s.1.1 s.1.2) s.1.3 w hf

  -- ---- both ways

  pub sides_joined : (u v : Point ℕ) → Sides u v → Joined u v
  sides_joined u v a =
      let w = sides.way_of sig n x name can a.0 a.1 u v a.2 a.3 a.4 in
      (sides.stays sig n x name can a.0 u (sides.near sig n x name can a.0 a.1 a.2) a.3, sides.stays sig n x name can a.1 v (sides.far sig n x name can a.0 a.1 a.2) a.4, (w.0, sides.ends_of sig n x name can a.0 a.1, w.1))

  kept_joined : (u v : Point ℕ) → Stays u → (AtSide u → ⊥) → n.partner u ≡ Some v → Joined u v
  kept_joined u v hu clear w = go (of_pair v)
    where
      go : IsOfPair x v ⊎ Stays v → Joined u v
      go (inl o) = absurd (clear (pair_side u v hu w o))
      go (inr hv) = (hu, hv, (Outer, [], w))

  pub joined_are : (u v : Point ℕ) → Joined u v → Sides u v ⊎ (Stays u × (AtSide u → ⊥) × (n.partner u ≡ Some v))
  joined_are u v j = go j.2.0 (first_wire sig n x name can.net can.inside can.redex can.naming j.2.0 u j.2.1 v j.2.2)
    where
      same : (w : Point ℕ) → Joined u w → w ≡ v
      same w k = sym (through.one_way sig n x name can.net can.inside can.redex can.naming j.2.0 k.2.0 u v w j.2.1 k.2.1 j.0 j.1 k.1 j.2.2 k.2.2).1

      by : AtSide u → Sides u v
      by s = subst (Sides u) (same s.0 (sides_joined u s.0 s.1)) s.1

      outer : (f : Point ℕ) → n.partner u ≡ Some f → IsOfPair x f ⊎ Stays f → Sides u v ⊎ (Stays u × (AtSide u → ⊥) × (n.partner u ≡ Some v))
      outer f w (inl o) = inl (by (pair_side u f j.0 w o))
      outer f w (inr hf) = inr (j.0, not_at_side u f w hf, w ∙ ap (λ z. Some z) (same f (j.0, hf, (Outer, [], w))))

      go : (s : Side) → (f : Point ℕ) × wire_of sig n x name s u f → Sides u v ⊎ (Stays u × (AtSide u → ⊥) × (n.partner u ≡ Some v))
      go Inner w = inl (by (inner_side u w.0 j.0 w.1))
      go Outer w = outer w.0 w.1 (of_pair w.0)

  -- ---- the net after it

  pub overwritten : (after : Net ℕ) → IsStep sig n x name after → IsOverwritten sig n x name after
  overwritten after step = record {
    agents = step.agents;
    partners = record {
      written = λ u v a. (step.wires u v).1 (sides_joined u v a);
      gone = λ u o. none_of (after.partner u) (λ v e. ((step.wires u v).0 e).0 o);
      kept = λ u hu clear. same_option (after.partner u) (n.partner u) (λ v e. was u clear v (joined_are u v ((step.wires u v).0 e))) (λ v e. (step.wires u v).1 (kept_joined u v hu clear e));
    };
    free = step.free;
  }
    where
      was : (u : Point ℕ) → (AtSide u → ⊥) → (v : Point ℕ) → Sides u v ⊎ (Stays u × (AtSide u → ⊥) × (n.partner u ≡ Some v)) → n.partner u ≡ Some v
      was u clear v (inl a) = absurd (clear (v, a))
      was u clear v (inr k) = k.2

  -- an overwritten net has the partners of a net after the interaction
  as_stepped : (after m : Net ℕ) → IsOverwritten sig n x name after → IsStep sig n x name m → (u : Point ℕ) → after.partner u ≡ m.partner u
  as_stepped after m over step u = go (m.partner u) refl (of_pair u)
    where
      there : (v : Point ℕ) → Sides u v ⊎ (Stays u × (AtSide u → ⊥) × (n.partner u ≡ Some v)) → after.partner u ≡ Some v
      there v (inl a) = over.partners.written u v a
      there v (inr k) = over.partners.kept u k.0 k.1 ∙ k.2

      go : (o : Option (Point ℕ)) → m.partner u ≡ o → IsOfPair x u ⊎ Stays u → after.partner u ≡ m.partner u
      go (Some v) e d = there v (joined_are u v ((step.wires u v).0 e)) ∙ sym e
      go None e (inl o) = over.partners.gone u o ∙ sym e
      go None e (inr hu) =
          let none : (v : Point ℕ) → Joined u v → ⊥ = λ v j. none-some v (sym e ∙ (step.wires u v).1 j) in
          let clear : AtSide u → ⊥ = λ s. none s.0 (sides_joined u s.0 s.1) in
          over.partners.kept u hu clear ∙ none_of (n.partner u) (λ v w. none v (kept_joined u v hu clear w)) ∙ sym e

  pub stepped : (after : Net ℕ) → IsOverwritten sig n x name after → IsStep sig n x name after
  stepped after over =
      let m = step_exists sig n x name can.net can.inside can.redex can.naming ℕ_discrete in
      let same = as_stepped after m.0 over m.1 in
      record {
        naming = can.naming;
        agents = over.agents;
        wires = λ u v. ((λ e. (m.1.wires u v).0 (sym (same u) ∙ e)), (λ j. same u ∙ (m.1.wires u v).1 j));
        free = over.free;
      }

pub steps_are_overwritten : StepsAreOverwritten
steps_are_overwritten sig n x name after can = ((λ step. overwritten sig n x name can after step), λ over. stepped sig n x name can after over)

pub overwritten_exists : OverwrittenExists
overwritten_exists sig n x name can =
    let m = step_exists sig n x name can.net can.inside can.redex can.naming ℕ_discrete in
    (m.0, overwritten sig n x name can m.0 m.1, is_net sig n x name m.0 can.net can.inside can.redex m.1 ℕ_discrete)

pub overwritten_is_one : OverwrittenIsOne
overwritten_is_one sig n x name one two can h g = one_result sig n x name one two (stepped sig n x name can one h) (stepped sig n x name can two g)

-- ---- a wire that leads back

module _ (sig : Signature) (n : Net ℕ) (x : Redex ℕ ℕ) (name : ℕ → ℕ) (after : Net ℕ) (net : IsNet sig n) (inside : IsNet sig x.member) (redex : IsRedex sig n x) (naming : IsNaming n x name) (over : IsOverwritten sig n x name after) where
  end_at : (y : ℕ) (i : ℕ) (u : Point ℕ) → IsOfPair x (Port y (suc i)) → n.partner (Port y (suc i)) ≡ Some u → (d : ℕ) × (d < length x.member.free) × (Port y (suc i) ≡ Port (end_agent sig x d) (end_place sig x d))
  end_at y i u o w =
      elim (outer_next sig n x name net inside redex naming ℕ_discrete u (Port y (suc i)) (net.back (Port y (suc i)) u w) (principal x.one x.two redex.active) (principal x.two x.one (net.back (Port x.one 0) (Port x.two 0) redex.active))) [
        | inl stays ↦ absurd (stays o)
        | inr d ↦ (d.0, subst (λ m. d.0 < m) (sym redex.ends) d.1, d.2)
      ]
    where
      principal : (a b : ℕ) → n.partner (Port a 0) ≡ Some (Port b 0) → u ≢ Port a 0
      principal a b active e = (let f : Some (Port y (suc i)) ≡ Some (Port b 0) = sym (net.back (Port y (suc i)) u w) ∙ ap n.partner e ∙ active in cc)

  not_back : (y z i j : ℕ) → IsOfPair x (Port y (suc i)) → IsOfPair x (Port z (suc j)) → n.partner (Port y (suc i)) ≢ Some (Port z (suc j))
  not_back y z i j o k w = go far.0 far.1
    where
      d : (d : ℕ) × (d < length x.member.free) × (Port y (suc i) ≡ Port (end_agent sig x d) (end_place sig x d))
      d = end_at y i (Port z (suc j)) o w

      far : (q : Point ℕ) × (x.member.partner (Free d.0) ≡ Some q)
      far = has_value (x.member.partner (Free d.0)) (inside.joined (Free d.0) d.1)

      near_side : IsSideAt sig n x name (Free d.0) (Port z (suc j))
      near_side = ap n.partner (sym d.2) ∙ w

      at_none : (v : Point ℕ) → AreSidesOf x.member (IsSideAt sig n x name) (Port z (suc j)) v → ⊥
      at_none v a = none-some v (sym (over.partners.gone (Port z (suc j)) k) ∙ over.partners.written (Port z (suc j)) v a)

      go : (q : Point ℕ) → x.member.partner (Free d.0) ≡ Some q → ⊥
      go (Port l m) e = at_none (Port (name l) m) (Free d.0, Port l m, e, near_side, refl)
      go (Free f) e =
          let within : f < sig.arity x.first + sig.arity x.second = subst (λ m. f < m) redex.ends (inside.points (Free f) (Free d.0) (inside.back (Free d.0) (Free f) e)) in
          let v = outer_at sig n x name net inside redex naming ℕ_discrete f within in
          at_none v.0 (Free d.0, Free f, e, near_side, v.1)

pub overwritten_leads_none_back : OverwrittenLeadsNoneBack
overwritten_leads_none_back sig n x name after net inside redex naming over = not_back sig n x name after net inside redex naming over
