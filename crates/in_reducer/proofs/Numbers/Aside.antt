-- An active pair under other numbers, while all other agents keep theirs.
use Rattle.std.proofs.Common.{◌≡◌, ◌⊎◌, inl, inr, ◌-◌, ℕ, zero, suc, Bool, true, false, cond, Option, Some, None, IsSome, refl, sym, ap, subst, ◌∙◌, arith}
use native.Mathlib.Decide.{ℕ_discrete}
use Rattle.std.proofs.lemmas.Option.{same_Some}
use Rattle.in_net.specs.Interactions.{Redex, IsRedex, IsOfPair, of_first, end_agent, end_place}
use Rattle.in_net.specs.Nets.{Point, Port, Free, Signature, Net, IsNet}
use Rattle.in_net.proofs.Public.{port_agent, port_place}
use Rattle.in_net.specs.Renaming.{renamed}
use Rattle.in_check.specs.Runs.{moved}
use Rattle.in_check.proofs.Public.{cond_map, live}
use Rattle.in_base.proofs.Options.{none_of}
use Rattle.in_base.proofs.Places.{is_some as there}
use Rattle.in_overwriting.specs.Overwriting.{NoneLeadsBack}
use Rattle.in_reducer.specs.Aside.{IsAside, WiresAreOfBefore, NumbersAreNew, AreAlikeAside, PairsAsideAreAlike}

-- a point that isn't the pair's stays
pub point_stays : (n m : Net ℕ) (x : Redex ℕ ℕ) (f : ℕ → ℕ) → IsAside n m x f → (u : Point ℕ) → (IsOfPair x u → ⊥) → renamed f u ≡ u
point_stays n m x f aside (Port y i) away = ap (λ (z : ℕ). Port z i) (aside.stays y (λ e. away (inl e)) (λ e. away (inr e)))
point_stays n m x f aside (Free k) away = refl

module _ (sig : Signature) (n m : Net ℕ) (x : Redex ℕ ℕ) (f : ℕ → ℕ) (net : IsNet sig n) (redex : IsRedex sig n x) (none_back : NoneLeadsBack n x) (aside : IsAside n m x f) where
  either : (y : ℕ) → ((y ≡ x.one) ⊎ (y ≡ x.two)) ⊎ (((y ≡ x.one) ⊎ (y ≡ x.two)) → ⊥)
  either y = go (ℕ_discrete y x.one) (ℕ_discrete y x.two)
    where
      go : Dec (y ≡ x.one) → Dec (y ≡ x.two) → ((y ≡ x.one) ⊎ (y ≡ x.two)) ⊎ (((y ≡ x.one) ⊎ (y ≡ x.two)) → ⊥)
      go (yes e) d = inl (inl e)
      go (no a) (yes e) = inl (inr e)
      go (no a) (no b) = inr (λ h. elim h [ inl e ↦ a e | inr e ↦ b e ])

  live_one : IsSome (n.symbol x.one)
  live_one = there (n.symbol x.one) x.first redex.one

  live_two : IsSome (n.symbol x.two)
  live_two = there (n.symbol x.two) x.second redex.two

  -- the principal ports of the pair lead to each other alone
  principal_out : (z y i : ℕ) → (z ≡ x.one) ⊎ (z ≡ x.two) → n.partner (Port z 0) ≡ Some (Port y (suc i)) → ⊥
  principal_out z y i (inl e) wire =
      let same : Port x.two 0 ≡ Port y (suc i) = same_Some (Port x.two 0) (Port y (suc i)) (sym redex.active ∙ ap (λ (z : ℕ). n.partner (Port z 0)) (sym e) ∙ wire) in
      let place : 0 ≡ suc i = port_place x.two y 0 (suc i) same in
      omega (arith, place)
  principal_out z y i (inr e) wire =
      let same : Port x.one 0 ≡ Port y (suc i) = same_Some (Port x.one 0) (Port y (suc i)) (sym (net.back (Port x.one 0) (Port x.two 0) redex.active) ∙ ap (λ (z : ℕ). n.partner (Port z 0)) (sym e) ∙ wire) in
      let place : 0 ≡ suc i = port_place x.one y 0 (suc i) same in
      omega (arith, place)

  -- the auxiliary ports lead away
  leads_away : (y i : ℕ) (v : Point ℕ) → (y ≡ x.one) ⊎ (y ≡ x.two) → n.partner (Port y (suc i)) ≡ Some v → IsOfPair x v → ⊥
  leads_away y i (Free k) of wire h = h
  leads_away y i (Port z zero) of wire h = principal_out z y i h (net.back (Port y (suc i)) (Port z 0) wire)
  leads_away y i (Port z (suc j)) of wire h = none_back y z i j of h wire

  -- an agent of the pair is known by its number aside
  is_it : (y c i : ℕ) (v : Point ℕ) → (c ≡ x.one) ⊎ (c ≡ x.two) → n.partner (Port y i) ≡ Some v → f y ≡ f c → y ≡ c
  is_it y c i v of wire e =
      aside.renamed.apart y c (live sig f n m net aside.renamed y i (net.points (Port y i) v wire)) (elim of [ inl h ↦ subst (λ (z : ℕ). IsSome (n.symbol z)) (sym h) live_one | inr h ↦ subst (λ (z : ℕ). IsSome (n.symbol z)) (sym h) live_two ]) e

  -- the wire of a port of the pair aside
  wire_aside : (c i : ℕ) (v : Point ℕ) → (c ≡ x.one) ⊎ (c ≡ x.two) → m.partner (Port (f c) i) ≡ Some v → (q : Point ℕ) × (renamed f q ≡ v) × (n.partner (Port c i) ≡ Some q)
  wire_aside c i v of wire = (let w = (aside.renamed.wires (Port (f c) i) v).0 wire in go w.0 w.1 w.2 w.3 w.4)
    where
      go : (p q : Point ℕ) → renamed f p ≡ Port (f c) i → renamed f q ≡ v → n.partner p ≡ Some q → (q : Point ℕ) × (renamed f q ≡ v) × (n.partner (Port c i) ≡ Some q)
      go (Free k) q e d h = cc
      go (Port y j) q e d h =
          let same : y ≡ c = is_it y c j q of h (port_agent (f y) (f c) j i e) in
          let place : j ≡ i = port_place (f y) (f c) j i e in
          (q, d, ap (λ (z : ℕ). n.partner (Port z i)) (sym same) ∙ ap (λ (k : ℕ). n.partner (Port y k)) (sym place) ∙ h)

  none_aside : NoneLeadsBack m (moved f x)
  none_aside y z i j of_y of_z wire = go of_y of_z
    where
      by : (c d : ℕ) → (c ≡ x.one) ⊎ (c ≡ x.two) → (d ≡ x.one) ⊎ (d ≡ x.two) → y ≡ f c → z ≡ f d → ⊥
      by c d of_c of_d is_y is_z =
          let w = wire_aside c (suc i) (Port z (suc j)) of_c (ap (λ (y : ℕ). m.partner (Port y (suc i))) (sym is_y) ∙ wire) in
          at w.0 w.1 w.2
        where
          at : (q : Point ℕ) → renamed f q ≡ Port z (suc j) → n.partner (Port c (suc i)) ≡ Some q → ⊥
          at (Free k) e h = cc
          at (Port q k) e h =
              let same : q ≡ d = is_it q d k (Port c (suc i)) of_d (net.back (Port c (suc i)) (Port q k) h) (port_agent (f q) z k (suc j) e ∙ is_z) in
              let place : k ≡ suc j = port_place (f q) z k (suc j) e in
              none_back c d i j of_c of_d (h ∙ ap (λ (q : ℕ). Some (Port q k)) same ∙ ap (λ (k : ℕ). Some (Port d k)) place)

      go : (y ≡ f x.one) ⊎ (y ≡ f x.two) → (z ≡ f x.one) ⊎ (z ≡ f x.two) → ⊥
      go (inl a) (inl b) = by x.one x.one (inl refl) (inl refl) a b
      go (inl a) (inr b) = by x.one x.two (inl refl) (inr refl) a b
      go (inr a) (inl b) = by x.two x.one (inr refl) (inl refl) a b
      go (inr a) (inr b) = by x.two x.two (inr refl) (inr refl) a b

  -- ---- boundary ends

  end_of : (e : ℕ) → (end_agent sig x e ≡ x.one) ⊎ (end_agent sig x e ≡ x.two)
  end_of e = go (of_first sig x e)
    where
      go : (b : Bool) → (cond b x.one x.two ≡ x.one) ⊎ (cond b x.one x.two ≡ x.two)
      go true = inl refl
      go false = inr refl

  end_auxiliary : (e : ℕ) → (j : ℕ) × (end_place sig x e ≡ suc j)
  end_auxiliary e = go (of_first sig x e)
    where
      go : (b : Bool) → (j : ℕ) × (cond b (suc e) (suc (e - sig.arity x.first)) ≡ suc j)
      go true = (e, refl)
      go false = (e - sig.arity x.first, refl)

  end_moved : (e : ℕ) → f (end_agent sig x e) ≡ end_agent sig (moved f x) e
  end_moved e = cond_map f (of_first sig x e) x.one x.two (f x.one) (f x.two) refl refl

  end_away : (e : ℕ) (v : Point ℕ) → n.partner (Port (end_agent sig x e) (end_place sig x e)) ≡ Some v → IsOfPair x v → ⊥
  end_away e v wire = let j = end_auxiliary e in leads_away (end_agent sig x e) j.0 v (end_of e) (ap (λ (k : ℕ). n.partner (Port (end_agent sig x e) k)) (sym j.1) ∙ wire)

  end_forth : (e : ℕ) (u : Point ℕ) → n.partner (Port (end_agent sig x e) (end_place sig x e)) ≡ Some u → m.partner (Port (end_agent sig (moved f x) e) (end_place sig x e)) ≡ Some u
  end_forth e u wire =
      ap (λ (z : ℕ). m.partner (Port z (end_place sig x e))) (sym (end_moved e))
      ∙ (aside.renamed.wires (Port (f (end_agent sig x e)) (end_place sig x e)) u).1 (Port (end_agent sig x e) (end_place sig x e), u, refl, point_stays n m x f aside u (end_away e u wire), wire)

  end_back : (e : ℕ) (u : Point ℕ) → m.partner (Port (end_agent sig (moved f x) e) (end_place sig x e)) ≡ Some u → n.partner (Port (end_agent sig x e) (end_place sig x e)) ≡ Some u
  end_back e u wire =
      let w = wire_aside (end_agent sig x e) (end_place sig x e) u (end_of e) (ap (λ (z : ℕ). m.partner (Port z (end_place sig x e))) (end_moved e) ∙ wire) in
      w.2 ∙ ap (λ (z : Point ℕ). Some z) (sym (point_stays n m x f aside w.0 (end_away e w.0 w.2)) ∙ w.1)

  -- ---- all other points

  stays_away : (p u : Point ℕ) → renamed f p ≡ u → (IsOfPair (moved f x) u → ⊥) → IsOfPair x p → ⊥
  stays_away p u e away h = away (subst (IsOfPair (moved f x)) e (go p h))
    where
      go : (p : Point ℕ) → IsOfPair x p → IsOfPair (moved f x) (renamed f p)
      go (Port y i) (inl e) = inl (ap f e)
      go (Port y i) (inr e) = inr (ap f e)
      go (Free k) h = h

  wire_back : WiresAreOfBefore n m x f
  wire_back u v away_u away_v wire =
      let w = (aside.renamed.wires u v).0 wire in
      let out_p = stays_away w.0 u w.2 away_u in
      let out_q = stays_away w.1 v w.3 away_v in
      let is_u : w.0 ≡ u = sym (point_stays n m x f aside w.0 out_p) ∙ w.2 in
      let is_v : w.1 ≡ v = sym (point_stays n m x f aside w.1 out_q) ∙ w.3 in
      (ap n.partner (sym is_u) ∙ w.4 ∙ ap (λ (z : Point ℕ). Some z) is_v, subst (λ (z : Point ℕ). IsOfPair x z → ⊥) is_u out_p, subst (λ (z : Point ℕ). IsOfPair x z → ⊥) is_v out_q)

  -- ---- names

  naming : NumbersAreNew n m x f
  naming name h = record { fresh = fresh; apart = h.in_place.apart }
    where
      old : (y z t : ℕ) → z ≡ y → n.symbol z ≡ Some t → ((z ≡ x.one) ⊎ (z ≡ x.two) → ⊥) → (n.symbol y ≡ None) ⊎ ((y ≡ x.one) ⊎ (y ≡ x.two)) → ⊥
      old y z t e is away (inl none) = let w : ◌≡◌ {A = Option ℕ} None (Some t) = sym none ∙ ap n.symbol (sym e) ∙ is in cc
      old y z t e is away (inr (inl d)) = away (inl (e ∙ d))
      old y z t e is away (inr (inr d)) = away (inr (e ∙ d))

      fresh : (k s : ℕ) → x.member.symbol k ≡ Some s → m.symbol (name k) ≡ None
      fresh k s e = none_of (m.symbol (name k)) (λ t is. (
          let z = (aside.renamed.agents (name k) t).0 is in
          elim (either z.0) [
            | inl of ↦ elim of [ inl d ↦ (h.aside k s e).0 (sym z.1 ∙ ap f d) | inr d ↦ (h.aside k s e).1 (sym z.1 ∙ ap f d) ]
            | inr away ↦ old (name k) z.0 t (sym (aside.stays z.0 (λ d. away (inl d)) (λ d. away (inr d))) ∙ z.1) z.2 away (h.in_place.fresh k s e)
          ]
          ))

  alike : AreAlikeAside sig n m x f
  alike = record {
    none_back = none_aside;
    ends = λ e u. (end_back e u, end_forth e u);
    forth = λ u v away_u away_v wire. (aside.renamed.wires u v).1 (u, v, point_stays n m x f aside u away_u, point_stays n m x f aside v away_v, wire);
    back = wire_back;
    naming = naming;
  }

pub pairs_aside_are_alike : PairsAsideAreAlike
pairs_aside_are_alike sig n m x f net redex none_back aside = alike sig n m x f net redex none_back aside
