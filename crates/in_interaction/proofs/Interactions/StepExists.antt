-- If the new names are new, an interaction has a result.
use Rattle.std.proofs.Common.{◌≡◌, ◌≢◌, ◌⊎◌, ◌↔◌, ℕ, Option, Some, None, IsSome, List, [], ◌∷◌, refl, sym, subst, ap, inl, inr, ◌∙◌}
use mathlib.Core.HLevel.{Discrete}
use Rattle.in_net.specs.Nets.{Point, Port, Free, Signature, Net, IsNet}
use Rattle.in_base.specs.Lists.{IsAmong}
use Rattle.in_net.specs.Interactions.{Redex, IsRedex, Side, Outer, Inner, stands_for, InnerWire, wire_of, IsOfPair, AreJoined, IsNaming, IsStep}
use Rattle.in_net.proofs.Public.{port_agent, port_place, symbol_of, first_wire, end_of_pair}
use Rattle.in_interaction.proofs.Interactions.Alternating.{joined_once}
use Rattle.in_interaction.proofs.Interactions.PathEnds.{joined_outer, joined_inner}

module _ {A B : Type 0} (sig : Signature) (n : Net A) (x : Redex A B) (name : B → A) (net : IsNet sig n) (inside : IsNet sig x.member) (redex : IsRedex sig n x) (naming : IsNaming n x name) (same : Discrete A) where
  -- an agent after, by its symbol there
  abbrev Has : A → ℕ → Type 0
  Has y s = ((y ≢ x.one) × (y ≢ x.two) × (n.symbol y ≡ Some s)) ⊎ ((k : B) × (name k ≡ y) × (x.member.symbol k ≡ Some s))

  abbrev NewAt : A → Type 0
  NewAt y = (k : B) × (name k ≡ y) × ((s : ℕ) × (x.member.symbol k ≡ Some s))

  valued : (o : Option ℕ) → ((s : ℕ) × (o ≡ Some s)) ⊎ (o ≡ None)
  valued None = inr refl
  valued (Some s) = inl (s, refl)

  search_new : (y : A) (ks : List B) → NewAt y ⊎ ((k : B) (s : ℕ) → IsAmong k ks → name k ≡ y → x.member.symbol k ≡ Some s → ⊥)
  search_new y [] = inr (λ k s h e t. h)
  search_new y (z ∷ zs) = go (search_new y zs) (same (name z) y) (valued (x.member.symbol z))
    where
      go : NewAt y ⊎ ((k : B) (s : ℕ) → IsAmong k zs → name k ≡ y → x.member.symbol k ≡ Some s → ⊥) → Dec (name z ≡ y) → ((s : ℕ) × (x.member.symbol z ≡ Some s)) ⊎ (x.member.symbol z ≡ None) → NewAt y ⊎ ((k : B) (s : ℕ) → IsAmong k (z ∷ zs) → name k ≡ y → x.member.symbol k ≡ Some s → ⊥)
      go (inl r) d v = inl r
      go (inr f) (yes e) (inl v) = inl (z, e, v)
      go (inr f) (yes e) (inr v) = inr (λ k s h a t. elim h [ inl i ↦ (let u : x.member.symbol k ≡ None = ap x.member.symbol (sym i) ∙ v in let w : x.member.symbol k ≡ Some s = t in cc) | inr j ↦ f k s j a t ])
      go (inr f) (no d) v = inr (λ k s h a t. elim h [ inl i ↦ d (ap name i ∙ a) | inr j ↦ f k s j a t ])

  new_at : (y : A) → NewAt y ⊎ ((k : B) (s : ℕ) → name k ≡ y → x.member.symbol k ≡ Some s → ⊥)
  new_at y = elim (search_new y inside.agents) [ inl r ↦ inl r | inr f ↦ inr (λ k s e t. f k s (inside.all k (subst IsSome (sym t) refl)) e t) ]

  -- the agent's symbol after, if it has one
  symbol_after : (y : A) → (o : Option ℕ) × ((s : ℕ) → (o ≡ Some s) ↔ Has y s)
  symbol_after y = go (same y x.one) (same y x.two) (valued (n.symbol y)) (new_at y)
    where
      gone : (s : ℕ) → n.symbol y ≡ Some s → NewAt y → ⊥
      gone s e r = let u : n.symbol y ≡ None = ap n.symbol (sym r.1) ∙ naming.fresh r.0 r.2.0 r.2.1 in let w : n.symbol y ≡ Some s = e in cc

      go : Dec (y ≡ x.one) → Dec (y ≡ x.two) → ((s : ℕ) × (n.symbol y ≡ Some s)) ⊎ (n.symbol y ≡ None) → NewAt y ⊎ ((k : B) (s : ℕ) → name k ≡ y → x.member.symbol k ≡ Some s → ⊥) → (o : Option ℕ) × ((s : ℕ) → (o ≡ Some s) ↔ Has y s)
      go one two v (inl r) = (
        Some r.2.0,
        λ s. (
          (λ e. inr (r.0, r.1, r.2.1 ∙ e)),
          (λ h. elim h [ inl a ↦ absurd (gone s a.2 r) | inr b ↦ (let k : b.0 ≡ r.0 = naming.apart b.0 r.0 s r.2.0 b.2 r.2.1 (b.1 ∙ sym r.1) in sym r.2.1 ∙ ap x.member.symbol (sym k) ∙ b.2) ]),
        ),
      )
      go (yes e) two v (inr f) = (None, λ s. ((λ h. cc), (λ h. elim h [ inl a ↦ absurd (a.0 e) | inr b ↦ absurd (f b.0 s b.1 b.2) ])))
      go (no d) (yes e) v (inr f) = (None, λ s. ((λ h. cc), (λ h. elim h [ inl a ↦ absurd (a.1 e) | inr b ↦ absurd (f b.0 s b.1 b.2) ])))
      go (no d) (no e) (inl v) (inr f) = (Some v.0, λ s. ((λ h. inl (d, e, v.1 ∙ h)), (λ h. elim h [ inl a ↦ sym v.1 ∙ a.2 | inr b ↦ absurd (f b.0 s b.1 b.2) ])))
      go (no d) (no e) (inr v) (inr f) = (None, λ s. ((λ h. cc), (λ h. elim h [ inl a ↦ (let u : n.symbol y ≡ Some s = a.2 in let w : n.symbol y ≡ None = v in cc) | inr b ↦ absurd (f b.0 s b.1 b.2) ])))

  -- a point is joined to one, or to none
  abbrev Known : Point A → Type 0
  Known u = ((v : Point A) × AreJoined sig n x name u v) ⊎ ((v : Point A) → AreJoined sig n x name u v → ⊥)

  of_pair : (u : Point A) → IsOfPair x u ⊎ (IsOfPair x u → ⊥)
  of_pair (Free k) = inr (λ h. h)
  of_pair (Port y i) = go (same y x.one) (same y x.two)
    where
      go : Dec (y ≡ x.one) → Dec (y ≡ x.two) → IsOfPair x (Port y i) ⊎ (IsOfPair x (Port y i) → ⊥)
      go (yes e) two = inl (inl e)
      go (no d) (yes e) = inl (inr e)
      go (no d) (no e) = inr (λ h. elim h [ inl a ↦ d a | inr b ↦ e b ])

  -- without a wire of either side it is joined to none
  alone : (u : Point A) → n.partner u ≡ None → ((w : Point A) → InnerWire sig x name u w → ⊥) → (v : Point A) → AreJoined sig n x name u v → ⊥
  alone u e f v j = go j.2.0 (first_wire sig n x name net inside redex naming j.2.0 u j.2.1 v j.2.2).0 (first_wire sig n x name net inside redex naming j.2.0 u j.2.1 v j.2.2).1
    where
      go : (s : Side) (w : Point A) → wire_of sig n x name s u w → ⊥
      go Outer w h = let k : n.partner u ≡ Some w = h in cc
      go Inner w h = f w h

  -- a wire of the right member from a port is one of a new agent, or of the pair
  inner_port : (y : A) (i : ℕ) (w : Point A) → (IsOfPair x (Port y i) → ⊥) → InnerWire sig x name (Port y i) w → (k : B) × (name k ≡ y) × ((q : Point B) × (x.member.partner (Port k i) ≡ Some q))
  inner_port y i w np h = go h.0 h.2 h.4
    where
      go : (p : Point B) → stands_for sig x name p ≡ Port y i → x.member.partner p ≡ Some h.1 → (k : B) × (name k ≡ y) × ((q : Point B) × (x.member.partner (Port k i) ≡ Some q))
      go (Port k j) e m = (k, port_agent (name k) y j i e, (h.1, ap (λ j. x.member.partner (Port k j)) (sym (port_place (name k) y j i e)) ∙ m))
      go (Free c) e m = absurd (np (subst (IsOfPair x) e (end_of_pair sig n x name net inside redex naming c)))

  inner_free : (k : ℕ) (w : Point A) → InnerWire sig x name (Free k) w → ⊥
  inner_free k w h = go h.0 h.2
    where
      go : (p : Point B) → stands_for sig x name p ≡ Free k → ⊥
      go (Port l j) e = cc
      go (Free c) e = cc

  partner_of : {X : Type 0} (o : Option X) → ((f : X) × (o ≡ Some f)) ⊎ (o ≡ None)
  partner_of None = inr refl
  partner_of (Some f) = inl (f, refl)

  new_there : (k : B) (i : ℕ) (q : Point B) → x.member.partner (Port k i) ≡ Some q → (s : ℕ) × (x.member.symbol k ≡ Some s)
  new_there k i q e = symbol_of sig (x.member.symbol k) i (inside.points (Port k i) q e)

  known : (u : Point A) → Known u
  known u = go (of_pair u) (partner_of (n.partner u))
    where
      at_port : (y : A) (i : ℕ) → (IsOfPair x (Port y i) → ⊥) → n.partner (Port y i) ≡ None → NewAt y ⊎ ((k : B) (s : ℕ) → name k ≡ y → x.member.symbol k ≡ Some s → ⊥) → Known (Port y i)
      at_port y i np e (inr f) =
          inr (alone (Port y i) e (λ w h. let r = inner_port y i w np h in let t = new_there r.0 i r.2.0 r.2.1 in f r.0 t.0 r.1 t.1))
      at_port y i np e (inl k) =
          elim (partner_of (x.member.partner (Port k.0 i))) [
            | inl q ↦ inl (subst (λ y. (v : Point A) × AreJoined sig n x name (Port y i) v) k.1 (joined_inner sig n x name net inside redex naming same k.0 i q.0 q.1))
            | inr m ↦ inr (alone (Port y i) e (λ w h.
                let r = inner_port y i w np h in
                let t = new_there r.0 i r.2.0 r.2.1 in
                let one : r.0 ≡ k.0 = naming.apart r.0 k.0 t.0 k.2.0 t.1 k.2.1 (r.1 ∙ sym k.1) in
                let a : x.member.partner (Port k.0 i) ≡ Some r.2.0 = ap (λ k. x.member.partner (Port k i)) (sym one) ∙ r.2.1 in
                let b : x.member.partner (Port k.0 i) ≡ None = m in
                cc))
          ]

      without : (u : Point A) → (IsOfPair x u → ⊥) → n.partner u ≡ None → Known u
      without (Free k) np e = inr (alone (Free k) e (λ w h. inner_free k w h))
      without (Port y i) np e = at_port y i np e (new_at y)

      go : IsOfPair x u ⊎ (IsOfPair x u → ⊥) → ((f : Point A) × (n.partner u ≡ Some f)) ⊎ (n.partner u ≡ None) → Known u
      go (inl h) p = inr (λ v j. j.0 h)
      go (inr np) (inl f) = inl (joined_outer sig n x name net inside redex naming same u f.0 np f.1)
      go (inr np) (inr e) = without u np e

  partner_after : (u : Point A) → (o : Option (Point A)) × ((v : Point A) → (o ≡ Some v) ↔ AreJoined sig n x name u v)
  partner_after u = go (known u)
    where
      go : Known u → (o : Option (Point A)) × ((v : Point A) → (o ≡ Some v) ↔ AreJoined sig n x name u v)
      go (inl r) = (
        Some r.0,
        λ v. (
          (λ e. let h : r.0 ≡ v = cc in subst (λ v. AreJoined sig n x name u v) h r.1),
          (λ j. ap (λ v. Some v) (joined_once sig n x name net inside redex naming u r.0 v r.1 j)),
        ),
      )
      go (inr f) = (None, λ v. ((λ e. cc), (λ j. absurd (f v j))))

  pub step_exists : (after : Net A) × IsStep sig n x name after
  step_exists = (
    record { symbol = λ y. (symbol_after y).0; partner = λ u. (partner_after u).0; free = n.free },
    record { naming = naming; agents = λ y s. (symbol_after y).1 s; wires = λ u v. (partner_after u).1 v; free = refl },
  )
