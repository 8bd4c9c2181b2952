-- The net after an interaction is a net.
use Rattle.std.proofs.Common.{◌≡◌, ◌≤◌, ◌<◌, ℕ, zero, suc, Option, Some, None, IsSome, IsSomeAnd, List, [], ◌∷◌, ◌++◌, map, length, refl, sym, subst, ap, inl, inr, ◌∙◌, arith}
use mathlib.Core.HLevel.{Discrete}
use Rattle.in_net.specs.Nets.{Point, Port, Free, Signature, Net, IsPoint, IsNet}
use Rattle.in_base.specs.Lists.{IsAmong}
use Rattle.in_base.proofs.Among.{among_left, among_right, in_map}
use Rattle.in_net.specs.Interactions.{Redex, IsRedex, Side, Outer, Inner, other, Alternates, stands_for, wire_of, IsOfPair, AreJoined, IsStep}
use Rattle.in_interaction.proofs.Interactions.Paths.{other_twice, other_side}
use Rattle.in_net.proofs.Public.{symbol_of, stands_one, first_wire, end_of_pair}
use Rattle.in_interaction.proofs.Interactions.Alternating.{wire_back, one_wire, both_sides, joined_back}
use Rattle.in_interaction.proofs.Interactions.EachJoined.{each_joined}

module _ {P : Type 0} (wire : Side → P → P → Type 0) (End : P → Type 0) where
  -- a path with the side of its last wire
  abbrev Sided : Side → P → List P → Side → P → Type 0
  Sided s u [] t v = (s ≡ t) × wire s u v
  Sided s u (e ∷ es) t v = wire s u e × End e × Sided (other s) e es t v

  sided : (s : Side) (u : P) (es : List P) (v : P) → Alternates wire End s u es v → (t : Side) × Sided s u es t v
  sided s u [] v w = (s, (refl, w))
  sided s u (e ∷ es) v w = let r = sided (other s) e es v w.2 in (r.0, (w.0, w.1, r.1))

  last_wire : (s : Side) (u : P) (es : List P) (t : Side) (v : P) → Sided s u es t v → (w : P) × wire t w v
  last_wire s u [] t v w = (u, subst (λ t. wire t u v) w.0 w.1)
  last_wire s u (e ∷ es) t v w = last_wire (other s) e es t v w.2

  -- a path of two wires or more, without its last one
  record Front (s : Side) (u : P) (es : List P) (t : Side) (v : P) : Type 0 where
    front : List P
    point : P
    shorter : length es ≡ suc (length front)
    path : Sided s u front (other t) point
    last : wire t point v

  front_of : (s : Side) (u : P) (e : P) (es : List P) (t : Side) (v : P) → Sided s u (e ∷ es) t v → Front s u (e ∷ es) t v
  front_of s u e [] t v w =
      record { front = []; point = e; shorter = refl; path = (sym (other_twice s) ∙ ap other w.2.0, w.0); last = subst (λ t. wire t e v) w.2.0 w.2.1 }
  front_of s u e (f ∷ es) t v w =
      let r = front_of (other s) e f es t v w.2 in
      record { front = e ∷ r.front; point = r.point; shorter = ap suc r.shorter; path = (w.0, w.1, r.path); last = r.last }

  -- no path leads from a point back to it by the side on which it began
  no_return : ((s : Side) (p q r : P) → wire s p q → wire s p r → q ≡ r) → ((s : Side) (p q : P) → wire s p q → wire s q p) → ((s : Side) (p : P) → wire s p p → ⊥) → (k : ℕ) (s : Side) (u : P) (es : List P) → length es ≤ k → Sided s u es s u → ⊥
  no_return one back apart k s u [] h w = apart s u w.1
  no_return one back apart k s u (e ∷ []) h w = other_side s w.2.0
  no_return one back apart zero s u (e ∷ f ∷ es) h w = omega arith
  no_return one back apart (suc k) s u (e ∷ f ∷ es) h w =
      let r = front_of (other s) e f es s u w.2 in
      let same : e ≡ r.point = one s u e r.point w.0 (back s r.point u r.last) in
      let less : length (f ∷ es) ≡ suc (length r.front) = r.shorter in
      no_return one back apart k (other s) e r.front (omega arith) (subst (λ z. Sided (other s) e r.front (other s) z) (sym same) r.path)

module _ {A B : Type 0} (sig : Signature) (n : Net A) (x : Redex A B) (name : B → A) (after : Net A) (net : IsNet sig n) (inside : IsNet sig x.member) (redex : IsRedex sig n x) (step : IsStep sig n x name after) (same : Discrete A) where
  wire_apart : (s : Side) (u : Point A) → wire_of sig n x name s u u → ⊥
  wire_apart Outer u w = net.apart u w
  wire_apart Inner u w =
      let e : w.0 ≡ w.1 = stands_one sig n x name net inside redex step.naming w.0 w.1 (inside.points w.0 w.1 w.4) (inside.points w.1 w.0 (inside.back w.0 w.1 w.4)) (w.2 ∙ sym w.3) in
      inside.apart w.0 (w.4 ∙ ap (λ p. Some p) (sym e))

  -- a point that stays has wires on one side alone
  one_side : (s t : Side) (u v w : Point A) → (IsOfPair x u → ⊥) → wire_of sig n x name s u v → wire_of sig n x name t u w → t ≡ s
  one_side Outer Outer u v w np a b = refl
  one_side Outer Inner u v w np a b = absurd (np (both_sides sig n x name net inside redex step.naming u v w a b))
  one_side Inner Outer u v w np a b = absurd (np (both_sides sig n x name net inside redex step.naming u w v b a))
  one_side Inner Inner u v w np a b = refl

  not_itself : (u : Point A) → AreJoined sig n x name u u → ⊥
  not_itself u j =
      let W = wire_of sig n x name in
      let r = sided W (IsOfPair x) j.2.0 u j.2.1 u j.2.2 in
      let l = last_wire W (IsOfPair x) j.2.0 u j.2.1 r.0 u r.1 in
      let f = first_wire sig n x name net inside redex step.naming j.2.0 u j.2.1 u j.2.2 in
      let turn : r.0 ≡ j.2.0 = one_side j.2.0 r.0 u f.0 l.0 j.0 f.1 (wire_back sig n x name net inside r.0 l.0 u l.1) in
      no_return W (IsOfPair x) (one_wire sig n x name net inside redex step.naming) (wire_back sig n x name net inside) wire_apart (length j.2.1) j.2.0 u j.2.1 (omega arith)
      (subst (λ t. Sided W (IsOfPair x) j.2.0 u j.2.1 t u) turn r.1)

  old_point : (u : Point A) → (IsOfPair x u → ⊥) → IsPoint sig n u → IsPoint sig after u
  old_point (Port y i) np h =
      let s = symbol_of sig (n.symbol y) i h in
      let e : after.symbol y ≡ Some s.0 = (step.agents y s.0).1 (inl ((λ e. np (inl e)), (λ e. np (inr e)), s.1)) in
      subst (λ o. IsSomeAnd o (λ s. i ≤ sig.arity s)) (s.1 ∙ sym e) h
  old_point (Free k) np h = subst (λ ts. k < length ts) (sym step.free) h

  new_point : (p : Point B) → (IsOfPair x (stands_for sig x name p) → ⊥) → IsPoint sig x.member p → IsPoint sig after (stands_for sig x name p)
  new_point (Port k i) np h =
      let s = symbol_of sig (x.member.symbol k) i h in
      let e : after.symbol (name k) ≡ Some s.0 = (step.agents (name k) s.0).1 (inr (k, refl, s.1)) in
      subst (λ o. IsSomeAnd o (λ s. i ≤ sig.arity s)) (s.1 ∙ sym e) h
  new_point (Free e) np h = absurd (np (end_of_pair sig n x name net inside redex step.naming e))

  is_point : (u v : Point A) → AreJoined sig n x name u v → IsPoint sig after u
  is_point u v j = go j.2.0 j.2.2
    where
      go : (s : Side) → Alternates (wire_of sig n x name) (IsOfPair x) s u j.2.1 v → IsPoint sig after u
      go Outer w =
          let f = first_wire sig n x name net inside redex step.naming Outer u j.2.1 v w in
          old_point u j.0 (net.points u f.0 f.1)
      go Inner w =
          let f = (first_wire sig n x name net inside redex step.naming Inner u j.2.1 v w).1 in
          subst (IsPoint sig after) f.2 (new_point f.0 (λ o. j.0 (subst (IsOfPair x) f.2 o)) (inside.points f.0 f.1 f.4))

  pub is_net : IsNet sig after
  is_net = record {
    agents = net.agents ++ map name inside.agents;
    all = λ y h. listed y (after.symbol y) refl h;
    joined = λ u h. each_joined sig n x name after net inside redex step same u h;
    points = λ u v e. is_point u v ((step.wires u v).0 e);
    back = λ u v e. (step.wires v u).1 (joined_back sig n x name net inside u v ((step.wires u v).0 e));
    apart = λ u e. not_itself u ((step.wires u u).0 e);
  }
    where
      listed : (y : A) (o : Option ℕ) → after.symbol y ≡ o → IsSome o → IsAmong y (net.agents ++ map name inside.agents)
      listed y None e h = cc
      listed y (Some s) e h =
          elim ((step.agents y s).0 e) [
            | inl r ↦ among_left y net.agents (map name inside.agents) (net.all y (subst IsSome (sym r.2) refl))
            | inr r ↦ among_right y net.agents (map name inside.agents) (subst (λ y. IsAmong y (map name inside.agents)) r.1 (in_map name inside.agents r.0 (inside.all r.0 (subst IsSome (sym r.2) refl))))
          ]
