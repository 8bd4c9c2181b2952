-- Alternating paths are deterministic and symmetric, at points.
use Rattle.std.proofs.Common.{◌≡◌, Option, Some, None, IsSome, List, [], ◌∷◌, refl, sym, subst, ap, ◌∙◌}
use Rattle.std.proofs.lemmas.Option.{same_Some}
use Rattle.in_net.specs.Nets.{Point, Port, Free, Signature, Net, IsPoint, IsNet}
use Rattle.in_net.specs.Interactions.{Redex, IsRedex, Side, Outer, Inner, other, Alternates, stands_for, InnerWire, wire_of, IsOfPair, AreJoined, IsNaming}
use Rattle.in_interaction.proofs.Interactions.Paths.{other_twice}
use Rattle.in_net.proofs.Public.{symbol_of, not_old, end_of_pair, stands_one, first_wire}

module _ {P : Type 0} (wire : Side → P → P → Type 0) (End : P → Type 0) where
  one_path : ((s : Side) (p q r : P) → wire s p q → wire s p r → q ≡ r) → (s : Side) (u : P) (es fs : List P) (v w : P) → (End v → ⊥) → (End w → ⊥) → Alternates wire End s u es v → Alternates wire End s u fs w → v ≡ w
  one_path one s u [] [] v w hv hw a b = one s u v w a b
  one_path one s u [] (f ∷ fs) v w hv hw a b = absurd (hv (subst End (sym (one s u v f a b.0)) b.1))
  one_path one s u (e ∷ es) [] v w hv hw a b = absurd (hw (subst End (sym (one s u w e b a.0)) a.1))
  one_path one s u (e ∷ es) (f ∷ fs) v w hv hw a b =
      one_path one (other s) f es fs v w hv hw (subst (λ e. Alternates wire End (other s) e es v) (one s u e f a.0 b.0) a.2) b.2

  -- on from e by one side and back from it by the other one: a path from the far end
  turn : ((s : Side) (p q : P) → wire s p q → wire s q p) → (s : Side) (e : P) (es : List P) (v : P) → End e → Alternates wire End s e es v → (acc : List P) (r : P) → Alternates wire End (other s) e acc r → (t : Side) × (fs : List P) × Alternates wire End t v fs r
  turn back s e [] v h w acc r k = (s, e ∷ acc, (back s e v w, h, k))
  turn back s e (f ∷ es) v h w acc r k =
      turn back (other s) f es v w.1 w.2 (e ∷ acc) r (subst (λ t. Alternates wire End t f (e ∷ acc) r) (sym (other_twice s)) (back s e f w.0, h, k))

  path_back : ((s : Side) (p q : P) → wire s p q → wire s q p) → (s : Side) (u : P) (es : List P) (v : P) → Alternates wire End s u es v → (t : Side) × (fs : List P) × Alternates wire End t v fs u
  path_back back s u [] v w = (s, [], back s u v w)
  path_back back s u (e ∷ es) v w =
      turn back (other s) e es v w.1 w.2 [] u (subst (λ t. wire t e u) (sym (other_twice s)) (back s u e w.0))

pub has_value : {X : Type 0} (o : Option X) → IsSome o → (y : X) × (o ≡ Some y)
has_value None h = cc
has_value (Some y) h = (y, refl)

module _ {A B : Type 0} (sig : Signature) (n : Net A) (x : Redex A B) (name : B → A) (net : IsNet sig n) (inside : IsNet sig x.member) where
  pub wire_back : (s : Side) (u v : Point A) → wire_of sig n x name s u v → wire_of sig n x name s v u
  wire_back Outer u v w = net.back u v w
  wire_back Inner u v w = (w.1, w.0, w.3, w.2, inside.back w.0 w.1 w.4)

  pub joined_back : (u v : Point A) → AreJoined sig n x name u v → AreJoined sig n x name v u
  joined_back u v j =
      let r = path_back (wire_of sig n x name) (IsOfPair x) wire_back j.2.0 u j.2.1 v j.2.2 in
      (j.1, j.0, (r.0, r.1, r.2))

  module _ (redex : IsRedex sig n x) (naming : IsNaming n x name) where
    pub one_wire : (s : Side) (u v w : Point A) → wire_of sig n x name s u v → wire_of sig n x name s u w → v ≡ w
    one_wire Outer u v w a b = same_Some v w (sym a ∙ b)
    one_wire Inner u v w a b =
        let near : a.0 ≡ b.0 = stands_one sig n x name net inside redex naming a.0 b.0 (inside.points a.0 a.1 a.4) (inside.points b.0 b.1 b.4) (a.2 ∙ sym b.2) in
        let far : a.1 ≡ b.1 = same_Some a.1 b.1 (sym a.4 ∙ ap x.member.partner near ∙ b.4) in
        sym a.3 ∙ ap (stands_for sig x name) far ∙ b.3

    -- only ports of the pair have a wire on both sides
    pub both_sides : (u v w : Point A) → n.partner u ≡ Some v → InnerWire sig x name u w → IsOfPair x u
    both_sides u v w a b = go b.0 (inside.points b.0 b.1 b.4) b.2
      where
        go : (p : Point B) → IsPoint sig x.member p → stands_for sig x name p ≡ u → IsOfPair x u
        go (Port k i) h e =
            let there : IsPoint sig n (Port (name k) i) = subst (IsPoint sig n) (sym e) (net.points u v a) in
            let s = symbol_of sig (n.symbol (name k)) i there in
            absurd (not_old sig n x name net inside redex naming k i (name k) s.0 h s.1 refl)
        go (Free f) h e = subst (IsOfPair x) e (end_of_pair sig n x name net inside redex naming f)

    pub joined_once : (u v w : Point A) → AreJoined sig n x name u v → AreJoined sig n x name u w → v ≡ w
    joined_once u v w a b = go a.2.0 b.2.0 a.2.2 b.2.2
      where
        go : (s t : Side) → Alternates (wire_of sig n x name) (IsOfPair x) s u a.2.1 v → Alternates (wire_of sig n x name) (IsOfPair x) t u b.2.1 w → v ≡ w
        go Outer Outer k l = one_path (wire_of sig n x name) (IsOfPair x) one_wire Outer u a.2.1 b.2.1 v w a.1 b.1 k l
        go Inner Inner k l = one_path (wire_of sig n x name) (IsOfPair x) one_wire Inner u a.2.1 b.2.1 v w a.1 b.1 k l
        go Outer Inner k l = let f = first_wire sig n x name net inside redex naming Outer u a.2.1 v k in let g = first_wire sig n x name net inside redex naming Inner u b.2.1 w l in absurd (a.0 (both_sides u f.0 g.0 f.1 g.1))
        go Inner Outer k l = let f = first_wire sig n x name net inside redex naming Inner u a.2.1 v k in let g = first_wire sig n x name net inside redex naming Outer u b.2.1 w l in absurd (a.0 (both_sides u g.0 f.0 g.1 f.1))
