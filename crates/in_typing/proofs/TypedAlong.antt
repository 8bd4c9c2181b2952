-- Types agree along an alternating path, and so an interaction keeps a net typed.
use Rattle.std.proofs.Common.{◌≡◌, ℕ, Option, Some, None, List, [], ◌∷◌, slice_get, refl, sym, subst, ap, inl, inr, ◌∙◌}
use Rattle.in_net.specs.Nets.{Point, Port, Free, Signature, Net, IsPoint, IsNet}
use Rattle.in_symbols.specs.declared.symbols.PortType.{PortType}
use Rattle.in_typing.specs.Typed.{opposite}
use Rattle.in_typing.specs.TypedNets.{type_in, IsTypedNet, HasType}
use Rattle.in_net.specs.Interactions.{Redex, IsRedex, IsNaming, Side, Outer, Inner, Alternates, stands_for, wire_of, IsOfPair, AreJoined, IsStep, end_agent, end_symbol, end_place}
use Rattle.in_typing.proofs.TypedParts.{opposite_twice}
use Rattle.in_net.proofs.Public.{end_has, port_agent, port_place, symbol_of, end_of_pair, end_of, stands_one, first_wire}
use Rattle.in_base.proofs.Each.{at_index}

-- the type of a port, by its agent's symbol, and the symbol that it comes from
pub port_type : {A : Type 0} (sig : Signature) (n : Net A) (y : A) (i s : ℕ) → n.symbol y ≡ Some s → type_in sig n (Port y i) ≡ Some (sig.type_of s i)
port_type sig n y i s h = ap (λ o. elim o [ None ↦ None | Some s ↦ Some (sig.type_of s i) ]) h

typed_symbol : {A : Type 0} (sig : Signature) (n : Net A) (y : A) (i : ℕ) (t : PortType) → type_in sig n (Port y i) ≡ Some t → (s : ℕ) × (n.symbol y ≡ Some s)
typed_symbol sig n y i t h = go (n.symbol y) refl h
  where
    go : (o : Option ℕ) → n.symbol y ≡ o → ◌≡◌ {A = Option PortType} (elim o [ None ↦ None | Some s ↦ Some (sig.type_of s i) ]) (Some t) → (s : ℕ) × (n.symbol y ≡ Some s)
    go None e h = cc
    go (Some s) e h = (s, e)

module _ {A B : Type 0} (sig : Signature) (n : Net A) (x : Redex A B) (name : B → A) (net : IsNet sig n) (inside : IsNet sig x.member) (redex : IsRedex sig n x) (naming : IsNaming n x name) (typed : IsTypedNet sig n) (typed_inside : IsTypedNet sig x.member) where
  -- a boundary end has opposite types outside and inside
  abbrev end_type : ℕ → PortType
  end_type e = sig.type_of (end_symbol sig x e) (end_place sig x e)

  end_outside : (e : ℕ) → type_in sig n (stands_for sig x name (Free e)) ≡ Some (sig.type_of (end_symbol sig x e) (end_place sig x e))
  end_outside e = port_type sig n (end_agent sig x e) (end_place sig x e) (end_symbol sig x e) (end_has sig n x net inside redex e)

  end_inside : (e : ℕ) → IsPoint sig x.member (Free e) → type_in sig x.member (Free e) ≡ Some (opposite (sig.type_of (end_symbol sig x e) (end_place sig x e)))
  end_inside e h =
      let g = at_index x.member.free e h in
      ap (λ o. elim o [ None ↦ None | Some t ↦ Some (opposite t) ]) (g.1 ∙ ap (λ t. Some t) (redex.declared e g.0 g.1))

  -- a new agent has no symbol in the net before
  not_before : (k : B) (i : ℕ) (s : ℕ) (t : PortType) → x.member.symbol k ≡ Some s → type_in sig n (Port (name k) i) ≡ Some t → ⊥
  not_before k i s t h e =
      let r = typed_symbol sig n (name k) i t e in
      let none = naming.fresh k s h in
      cc

  -- the type at a point of the net before that stays is its type there
  outer_type : (v : Point A) (t : PortType) → (IsOfPair x v → ⊥) → IsPoint sig n v → HasType sig n x name v t → type_in sig n v ≡ Some t
  outer_type v t stays point (inl e) = e
  outer_type v t stays point (inr r) = go r.0 r.1 r.2
    where
      go : (p : Point B) → stands_for sig x name p ≡ v → type_in sig x.member p ≡ Some t → type_in sig n v ≡ Some t
      go (Port k i) same e =
          let s = typed_symbol sig x.member k i t e in
          let there : IsPoint sig n (Port (name k) i) = subst (IsPoint sig n) (sym same) point in
          let before = symbol_of sig (n.symbol (name k)) i there in
          let none = naming.fresh k s.0 s.1 in
          cc
      go (Free e) same h = absurd (stays (subst (IsOfPair x) same (end_of_pair sig n x name net inside redex naming e)))

  -- .. and that at a new agent's port is the one in the right member
  inner_type : (p : Point B) (t : PortType) → (IsOfPair x (stands_for sig x name p) → ⊥) → IsPoint sig x.member p → HasType sig n x name (stands_for sig x name p) t → type_in sig x.member p ≡ Some t
  inner_type (Free e) t stays point h = absurd (stays (end_of_pair sig n x name net inside redex naming e))
  inner_type (Port k i) t stays point (inl e) = let s = symbol_of sig (x.member.symbol k) i point in absurd (not_before k i s.0 t s.1 e)
  inner_type (Port k i) t stays point (inr r) = go r.0 r.1 r.2
    where
      go : (p : Point B) → stands_for sig x name p ≡ Port (name k) i → type_in sig x.member p ≡ Some t → type_in sig x.member (Port k i) ≡ Some t
      go (Port l j) same e =
          let s = symbol_of sig (x.member.symbol k) i point in
          let r = typed_symbol sig x.member l j t e in
          let agent : l ≡ k = naming.apart l k r.0 s.0 r.1 s.1 (port_agent (name l) (name k) j i same) in
          let place : j ≡ i = port_place (name l) (name k) j i same in
          subst (λ y. type_in sig x.member (Port y i) ≡ Some t) agent (subst (λ j. type_in sig x.member (Port l j) ≡ Some t) place e)
      go (Free e) same h = absurd (stays (subst (IsOfPair x) same (end_of_pair sig n x name net inside redex naming e)))

  -- the type of a point on a side
  abbrev TypeOn : Side → Point A → PortType → Type 0
  TypeOn Outer u t = type_in sig n u ≡ Some t
  TypeOn Inner u t = (p : Point B) × (stands_for sig x name p ≡ u) × IsPoint sig x.member p × (type_in sig x.member p ≡ Some t)

  -- along a path the type turns into the opposite one
  along : (s : Side) (u : Point A) (es : List (Point A)) (v : Point A) → (IsOfPair x v → ⊥) → Alternates (wire_of sig n x name) (IsOfPair x) s u es v → (a b : PortType) → TypeOn s u a → HasType sig n x name v b → b ≡ opposite a
  along Outer u [] v h w a b ta tb = typed u v a b w ta (outer_type v b h (net.points v u (net.back u v w)) tb)
  along Inner u [] v h w a b ta tb =
      let point = inside.points w.1 w.0 (inside.back w.0 w.1 w.4) in
      let same : ta.0 ≡ w.0 = stands_one sig n x name net inside redex naming ta.0 w.0 ta.2 (inside.points w.0 w.1 w.4) (ta.1 ∙ sym w.2) in
      typed_inside w.0 w.1 a b w.4 (ap (type_in sig x.member) (sym same) ∙ ta.3)
      (inner_type w.1 b (λ o. h (subst (IsOfPair x) w.3 o)) point (subst (λ z. HasType sig n x name z b) (sym w.3) tb))
  along Outer u (e ∷ es) v h w a b ta tb =
      let f = (first_wire sig n x name net inside redex naming Inner e es v w.2).1 in
      let point = inside.points f.0 f.1 f.4 in
      let c = end_of sig n x name net inside redex naming f.0 point (subst (IsOfPair x) (sym f.2) w.1) in
      let here : stands_for sig x name (Free c.0) ≡ e = sym (ap (stands_for sig x name) c.1) ∙ f.2 in
      let near : end_type c.0 ≡ opposite a = typed u e a (end_type c.0) w.0 ta (sym (ap (type_in sig n) here) ∙ end_outside c.0) in
      let r = along Inner e es v h w.2 (opposite (end_type c.0)) b
      (Free c.0, here, subst (IsPoint sig x.member) c.1 point, end_inside c.0 (subst (IsPoint sig x.member) c.1 point)) tb in
      r ∙ opposite_twice (end_type c.0) ∙ near
  along Inner u (e ∷ es) v h w a b ta tb =
      let i = w.0 in
      let point = inside.points i.1 i.0 (inside.back i.0 i.1 i.4) in
      let c = end_of sig n x name net inside redex naming i.1 point (subst (IsOfPair x) (sym i.3) w.1) in
      let here : stands_for sig x name (Free c.0) ≡ e = sym (ap (stands_for sig x name) c.1) ∙ i.3 in
      let same : ta.0 ≡ i.0 = stands_one sig n x name net inside redex naming ta.0 i.0 ta.2 (inside.points i.0 i.1 i.4) (ta.1 ∙ sym i.2) in
      let near : opposite (end_type c.0) ≡ opposite a = typed_inside i.0 i.1 a (opposite (end_type c.0)) i.4 (ap (type_in sig x.member) (sym same) ∙ ta.3)
      (ap (type_in sig x.member) c.1 ∙ end_inside c.0 (subst (IsPoint sig x.member) c.1 point)) in
      along Outer e es v h w.2 (end_type c.0) b (sym (ap (type_in sig n) here) ∙ end_outside c.0) tb ∙ near

  pub along_paths : (u v : Point A) (a b : PortType) → AreJoined sig n x name u v → HasType sig n x name u a → HasType sig n x name v b → b ≡ opposite a
  along_paths u v a b j ta tb = go j.2.0 j.2.2
    where
      go : (s : Side) → Alternates (wire_of sig n x name) (IsOfPair x) s u j.2.1 v → b ≡ opposite a
      go Outer w =
          let f = first_wire sig n x name net inside redex naming Outer u j.2.1 v w in
          along Outer u j.2.1 v j.1 w a b (outer_type u a j.0 (net.points u f.0 f.1) ta) tb
      go Inner w =
          let f = (first_wire sig n x name net inside redex naming Inner u j.2.1 v w).1 in
          let point = inside.points f.0 f.1 f.4 in
          along Inner u j.2.1 v j.1 w a b (f.0, f.2, point, inner_type f.0 a (λ o. j.0 (subst (IsOfPair x) f.2 o)) point (subst (λ z. HasType sig n x name z a) (sym f.2) ta)) tb

  -- a point of the net after has the type that it had, or that of the right member
  type_after : (after : Net A) → IsStep sig n x name after → (u : Point A) (t : PortType) → type_in sig after u ≡ Some t → HasType sig n x name u t
  type_after after step (Free k) t e = inl (ap (λ ts. elim (slice_get ts k) [ None ↦ None | Some t ↦ Some (opposite t) ]) (sym step.free) ∙ e)
  type_after after step (Port y i) t e =
      let s = typed_symbol sig after y i t e in
      let here : type_in sig after (Port y i) ≡ Some (sig.type_of s.0 i) = port_type sig after y i s.0 s.1 in
      elim ((step.agents y s.0).0 s.1) [
        | inl r ↦ inl (port_type sig n y i s.0 r.2 ∙ sym here ∙ e)
        | inr r ↦ inr (Port r.0 i, ap (λ (z : A). Port z i) r.1, port_type sig x.member r.0 i s.0 r.2 ∙ sym here ∙ e)
      ]

  pub typed_after : (after : Net A) → IsStep sig n x name after → IsTypedNet sig after
  typed_after after step u v a b e ta tb = along_paths u v a b ((step.wires u v).0 e) (type_after after step u a ta) (type_after after step v b tb)
