-- An interaction in place is that of the net in which the pair has other numbers.
use Rattle.std.proofs.Common.{◌≡◌, ◌≢◌, ◌⊎◌, inl, inr, ◌<◌, ◌≤◌, ℕ, Option, Some, None, IsSomeAnd, length, refl, sym, ap, subst, ◌∙◌}
use native.Mathlib.Decide.{ℕ_discrete}
use Rattle.std.proofs.lemmas.Option.{same_Some}
use Rattle.in_base.proofs.Options.{none_of}
use Rattle.in_net.specs.Interactions.{Redex, IsRedex, IsOfPair, IsNaming, IsStep}
use Rattle.in_net.specs.Nets.{Point, Port, Free, Signature, Net, IsNet, IsPoint}
use Rattle.in_net.proofs.Public.{symbol_of}
use Rattle.in_interaction.proofs.Public.{has_value, outer_next, same_option, one_result}
use Rattle.in_net.specs.Renaming.{renamed}
use Rattle.in_check.specs.Runs.{moved}
use Rattle.in_base.proofs.Places.{is_some as there}
use Rattle.in_check.proofs.Public.{net_renamed, symbol_kept, wire_kept}
use Rattle.in_overwriting.specs.Overwriting.{CanOverwrite, IsOverwritten, IsSideAt, IsSide}
use Rattle.in_overwriting.proofs.Public.{overwritten_exists, sides_are_apart, steps_are_overwritten}
use Rattle.in_reducer.specs.Aside.{IsAside, AreAlikeAside}
use Rattle.in_reducer.proofs.Public.{pairs_aside_are_alike, point_stays}
use Rattle.in_reusing.specs.InPlace.{CanReuse, IsOverwrittenInPlace, InPlaceIsAStep, InPlaceExists, InPlaceIsOne}

module _ (sig : Signature) (n m : Net ℕ) (x : Redex ℕ ℕ) (f name : ℕ → ℕ) (can : CanReuse sig n x f name) (aside : IsAside n m x f) where
  abbrev z : Redex ℕ ℕ
  z = moved f x

  pub alike : AreAlikeAside sig n m x f
  alike = pairs_aside_are_alike sig n m x f can.net can.redex can.none_back aside

  net_m : IsNet sig m
  net_m = net_renamed sig f n m can.net aside.renamed

  redex_m : IsRedex sig m z
  redex_m = record {
    one = symbol_kept sig f n m can.net aside.renamed x.one x.first can.redex.one;
    two = symbol_kept sig f n m can.net aside.renamed x.two x.second can.redex.two;
    differ = λ e. can.redex.differ (aside.renamed.apart x.one x.two (there (n.symbol x.one) x.first can.redex.one) (there (n.symbol x.two) x.second can.redex.two) e);
    active = wire_kept sig f n m can.net aside.renamed (Port x.one 0) (Port x.two 0) can.redex.active;
    ends = can.redex.ends;
    declared = can.redex.declared;
  }

  naming : IsNaming m z name
  naming = alike.naming name can.reusing

  pub can_m : CanOverwrite sig m z name
  can_m = record { net = net_m; inside = can.inside; redex = redex_m; naming = naming; none_back = alike.none_back }

  -- ---- sides

  pub side_m : (p u : Point ℕ) → IsSideAt sig n x name p u → IsSideAt sig m z name p u
  side_m (Port k i) u h = h
  side_m (Free e) u h = (alike.ends e u).1 h

  pub side_n : (p u : Point ℕ) → IsSideAt sig m z name p u → IsSideAt sig n x name p u
  side_n (Port k i) u h = h
  side_n (Free e) u h = (alike.ends e u).0 h

  -- a point of the right member that leads to this point is on a wire that has a side here
  is_side : (p u : Point ℕ) → IsPoint sig x.member p → IsSideAt sig m z name p u → IsSide sig m z name u
  is_side p u h at =
      let q = has_value (x.member.partner p) (can.inside.joined p h) in
      let w = (sides_are_apart sig m z name can_m).side q.0 (can.inside.points q.0 p (can.inside.back p q.0 q.1)) in
      (w.0, (p, q.0, q.1, at, w.1))

  -- ---- points that stay

  stays_out : (u v : Point ℕ) → (IsOfPair z u → ⊥) → (IsSide sig m z name u → ⊥) → m.partner u ≡ Some v → IsOfPair z v → ⊥
  stays_out u v away none wire of =
      elim (outer_next sig m z name net_m can.inside redex_m naming ℕ_discrete u v wire (λ e. away (subst (IsOfPair z) (sym e) (inl refl))) (λ e. away (subst (IsOfPair z) (sym e) (inr refl)))) [
        | inl out ↦ out of
        | inr d ↦ none (is_side (Free d.0) u (subst (λ (k : ℕ). d.0 < k) (sym can.redex.ends) d.1) (ap m.partner (sym d.2) ∙ net_m.back u v wire))
      ]

  -- ---- agents

  not_aside : (y s : ℕ) → n.symbol y ≡ Some s → (y ≢ f x.one) × (y ≢ f x.two)
  not_aside y s h = (
    (λ e. (let w : ◌≡◌ {A = Option ℕ} None (Some s) = sym can.beside.0 ∙ ap n.symbol (sym e) ∙ h in cc)),
    (λ e. (let w : ◌≡◌ {A = Option ℕ} None (Some s) = sym can.beside.1 ∙ ap n.symbol (sym e) ∙ h in cc)),
  )

  -- ---- a net that is overwritten in this way

  out_n : (u v : Point ℕ) → (IsOfPair x u → ⊥) → (IsOfPair z u → ⊥) → (IsSide sig m z name u → ⊥) → n.partner u ≡ Some v → IsOfPair x v → ⊥
  out_n u v away away_m none wire of =
      stays_out u (renamed f v) away_m none (ap m.partner (sym (point_stays n m x f aside u away)) ∙ wire_kept sig f n m can.net aside.renamed u v wire) (pair_kept v of)
    where
      pair_kept : (v : Point ℕ) → IsOfPair x v → IsOfPair z (renamed f v)
      pair_kept (Port y i) (inl e) = inl (ap f e)
      pair_kept (Port y i) (inr e) = inr (ap f e)
      pair_kept (Free k) h = h

  not_of_aside : (u v : Point ℕ) → n.partner u ≡ Some v → IsOfPair z u → ⊥
  not_of_aside (Free k) v wire of = of
  not_of_aside (Port y i) v wire of =
      let s = symbol_of sig (n.symbol y) i (can.net.points (Port y i) v wire) in
      let d = not_aside y s.0 s.1 in
      elim of [ inl e ↦ d.0 e | inr e ↦ d.1 e ]

  pub in_place_there : (after : Net ℕ) × IsOverwrittenInPlace sig n x name after × IsNet sig after
  in_place_there =
      let r = overwritten_exists sig m z name can_m in
      let after = r.0 in
      let over = r.1 in (
        after,
        record {
          agents = λ y s. (
            (λ h. (elim ((over.agents y s).0 h) [
              | inl k ↦ inl (agent_old y s k.0 k.1 k.2)
              | inr k ↦ inr k
            ])),
            (λ h. (elim h [
              | inl k ↦ (let d = not_aside y s k.2 in (over.agents y s).1 (inl (d.0, d.1, ap m.symbol (sym (aside.stays y k.0 k.1)) ∙ symbol_kept sig f n m can.net aside.renamed y s k.2)))
              | inr k ↦ (over.agents y s).1 (inr k)
            ])),
          );
          written = λ u v s. over.partners.written u v (s.0, s.1, s.2, side_m s.0 u s.3, side_m s.1 v s.4);
          kept = λ u v away none wire. (
              let away_m = not_of_aside u v wire in
              let none_m : IsSide sig m z name u → ⊥ = λ s. none (s.0, (s.1.0, s.1.1, s.1.2, side_n s.1.0 u s.1.3, side_n s.1.1 s.0 s.1.4)) in
              over.partners.kept u away_m none_m ∙ alike.forth u v away (out_n u v away away_m none_m wire) wire
              );
          points = r.2.points;
          free = over.free ∙ aside.renamed.free;
        },
        r.2,
      )
    where
      agent_old : (y s : ℕ) → y ≢ f x.one → y ≢ f x.two → m.symbol y ≡ Some s → (y ≢ x.one) × (y ≢ x.two) × (n.symbol y ≡ Some s)
      agent_old y s not_a not_b h =
          let w = (aside.renamed.agents y s).0 h in
          let not_one : w.0 ≢ x.one = λ e. not_a (sym w.1 ∙ ap f e) in
          let not_two : w.0 ≢ x.two = λ e. not_b (sym w.1 ∙ ap f e) in
          let same : w.0 ≡ y = sym (aside.stays w.0 not_one not_two) ∙ w.1 in
          ((λ e. not_one (same ∙ e)), (λ e. not_two (same ∙ e)), ap n.symbol (sym same) ∙ w.2)

  -- ---- the net that is overwritten

  module _ (after : Net ℕ) (over : IsOverwrittenInPlace sig n x name after) where
    kept_m : (u v : Point ℕ) → (IsOfPair z u → ⊥) → (IsSide sig m z name u → ⊥) → m.partner u ≡ Some v → after.partner u ≡ Some v
    kept_m u v away none wire =
        let b = alike.back u v away (stays_out u v away none wire) wire in
        over.kept u v b.1 (λ s. none (s.0, (s.1.0, s.1.1, s.1.2, side_m s.1.0 u s.1.3, side_m s.1.1 s.0 s.1.4))) b.0

    abbrev NewAt : ℕ → ℕ → Type 0
    NewAt y s = (k : ℕ) × (name k ≡ y) × (x.member.symbol k ≡ Some s)

    abbrev StaysAt : ℕ → ℕ → Type 0
    StaysAt y s = (y ≢ f x.one) × (y ≢ f x.two) × (m.symbol y ≡ Some s)

    agent_forth : (y s : ℕ) → after.symbol y ≡ Some s → StaysAt y s ⊎ NewAt y s
    agent_forth y s h = elim ((over.agents y s).0 h) [
      | inl k ↦ (let a = not_aside y s k.2 in inl (a.0, a.1, ap m.symbol (sym (aside.stays y k.0 k.1)) ∙ symbol_kept sig f n m can.net aside.renamed y s k.2))
      | inr k ↦ inr k
    ]

    agent_back : (y s : ℕ) → StaysAt y s ⊎ NewAt y s → after.symbol y ≡ Some s
    agent_back y s (inr k) = (over.agents y s).1 (inr k)
    agent_back y s (inl h) =
        let w = (aside.renamed.agents y s).0 h.2 in
        let not_one : w.0 ≢ x.one = λ e. h.0 (sym w.1 ∙ ap f e) in
        let not_two : w.0 ≢ x.two = λ e. h.1 (sym w.1 ∙ ap f e) in
        let same : w.0 ≡ y = sym (aside.stays w.0 not_one not_two) ∙ w.1 in
        (over.agents y s).1 (inl ((λ e. not_one (same ∙ e)), (λ e. not_two (same ∙ e)), ap n.symbol (sym same) ∙ w.2))

    -- a point after is one of the net with the pair aside, or a side
    point_after : (u : Point ℕ) → IsPoint sig after u → IsPoint sig m u ⊎ IsSide sig m z name u
    point_after (Free k) h = inl (subst (λ ts. k < length ts) (over.free ∙ sym aside.renamed.free) h)
    point_after (Port y i) h = go s.0 s.1 (agent_forth y s.0 s.1) (subst (λ (o : Option ℕ). IsSomeAnd o (λ s. i ≤ sig.arity s)) s.1 h)
      where
        s : (k : ℕ) × (after.symbol y ≡ Some k)
        s = symbol_of sig (after.symbol y) i h

        go : (t : ℕ) → after.symbol y ≡ Some t → StaysAt y t ⊎ NewAt y t → IsSomeAnd (Some t) (λ s. i ≤ sig.arity s) → IsPoint sig m (Port y i) ⊎ IsSide sig m z name (Port y i)
        go t is (inl k) l = inl (subst (λ (o : Option ℕ). IsSomeAnd o (λ s. i ≤ sig.arity s)) (sym k.2) l)
        go t is (inr k) l = inr (is_side (Port k.0 i) (Port y i) (subst (λ (o : Option ℕ). IsSomeAnd o (λ s. i ≤ sig.arity s)) (sym k.2) l) (ap (λ (y : ℕ). Port y i) (sym k.1)))

    -- the numbers that the pair has aside are no agent's after
    gone_agent : (y s : ℕ) → (y ≡ f x.one) ⊎ (y ≡ f x.two) → after.symbol y ≡ Some s → ⊥
    gone_agent y s of h = go of (agent_forth y s h)
      where
        go : (y ≡ f x.one) ⊎ (y ≡ f x.two) → StaysAt y s ⊎ NewAt y s → ⊥
        go (inl e) (inl k) = k.0 e
        go (inr e) (inl k) = k.1 e
        go (inl e) (inr k) = (can.reusing.aside k.0 s k.2).0 (k.1 ∙ e)
        go (inr e) (inr k) = (can.reusing.aside k.0 s k.2).1 (k.1 ∙ e)

    gone : (u : Point ℕ) → IsOfPair z u → after.partner u ≡ None
    gone (Free k) of = absurd of
    gone (Port y i) of = none_of (after.partner (Port y i)) (λ v wire. (let s = symbol_of sig (after.symbol y) i (over.points (Port y i) v wire) in gone_agent y s.0 of s.1))

    kept : (u : Point ℕ) → (IsOfPair z u → ⊥) → (IsSide sig m z name u → ⊥) → after.partner u ≡ m.partner u
    kept u away none = same_option (after.partner u) (m.partner u) back (λ v wire. kept_m u v away none wire)
      where
        back : (v : Point ℕ) → after.partner u ≡ Some v → m.partner u ≡ Some v
        back v wire = elim (point_after u (over.points u v wire)) [
          | inl h ↦ (
              let w = has_value (m.partner u) (net_m.joined u h) in
              w.1 ∙ ap (λ (p : Point ℕ). Some p) (same_Some w.0 v (sym (kept_m u w.0 away none w.1) ∙ wire))
              )
          | inr s ↦ absurd (none s)
        ]

    overwritten : IsOverwritten sig m z name after
    overwritten = record {
      agents = λ y s. (agent_forth y s, agent_back y s);
      partners = record {
        written = λ u v s. over.written u v (s.0, s.1, s.2, side_n s.0 u s.3, side_n s.1 v s.4);
        gone = gone;
        kept = kept;
      };
      free = over.free ∙ sym aside.renamed.free;
    }

    pub steps : IsStep sig m z name after
    steps = (steps_are_overwritten sig m z name after can_m).1 overwritten

pub reuse_is_a_step : InPlaceIsAStep
reuse_is_a_step sig n m x f name after can aside over = steps sig n m x f name can aside after over

pub reuse_exists : InPlaceExists
reuse_exists sig n m x f name can aside = in_place_there sig n m x f name can aside

pub reuse_is_one : InPlaceIsOne
reuse_is_one sig n m x f name one two can aside h g = one_result sig m (moved f x) name one two (steps sig n m x f name can aside one h) (steps sig n m x f name can aside two g)
