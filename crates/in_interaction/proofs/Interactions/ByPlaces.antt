-- The alternating paths of an interaction, by places.
use Rattle.std.proofs.Common.{◌≡◌, ◌⊎◌, ℕ, Some, None, List, [], ◌∷◌, refl, sym, subst, ap, inl, inr, ◌∙◌}
use Rattle.in_net.specs.Nets.{Point, Port, Free, Signature, Net, IsPoint, IsNet}
use Rattle.in_net.specs.Interactions.{Redex, IsRedex, Side, Outer, Inner, Alternates, stands_for, wire_of, IsOfPair, AreJoined, IsNaming, IsStep}
use Rattle.in_interaction.proofs.Interactions.Places.{Place, Old, New, Boundary, Loose, Path, Stays, IsJoined, IsBefore, IsInside, wires, HasSymbol, IsAfter, IsByPlaces}
use Rattle.in_interaction.specs.Pieces.{name_after}
use Rattle.in_net.proofs.Public.{end_of_pair, end_of}

module _ {A B : Type 0} (sig : Signature) (n : Net A) (x : Redex A B) (name : B → A) (net : IsNet sig n) (inside : IsNet sig x.member) (redex : IsRedex sig n x) (naming : IsNaming n x name) where
  -- the end of a path of places
  abbrev Ends : Point A → Place A B → Type 0
  Ends v q = IsAfter (name_after name) q v × Stays q

  abbrev From : Side → Place A B → Point A → Type 0
  From s p v = (fs : List ℕ) × (q : Place A B) × Path (wires sig n x) s p fs q × Ends v q

  -- a point of the net before that is of no pair
  old_place : (v : Point A) → (IsOfPair x v → ⊥) → (q : Place A B) × IsBefore sig x q v × Ends v q
  old_place (Port y i) h = (Old y i, ((λ e. h (inl e)), (λ e. h (inr e)), refl), (refl, tt))
  old_place (Free k) h = (Loose k, refl, (refl, tt))

  -- the place of a point of the right member
  abbrev inner_place : Point B → Place A B
  inner_place (Port k i) = New k i
  inner_place (Free e) = Boundary e

  inside_at : (p : Point B) → IsInside (inner_place p) p
  inside_at (Port k i) = refl
  inside_at (Free e) = refl

  new_end : (p : Point B) → (IsOfPair x (stands_for sig x name p) → ⊥) → Ends (stands_for sig x name p) (inner_place p)
  new_end (Port k i) h = (refl, tt)
  new_end (Free e) h = absurd (h (end_of_pair sig n x name net inside redex naming e))

  -- a wire of the right member to a port of the pair, and on from there
  inner_step : (e : Point A) (v : Point A) (a b : Point B) → x.member.partner a ≡ Some b → stands_for sig x name b ≡ e → IsOfPair x e → ((f : ℕ) → IsBefore sig x (Boundary f) e → From Outer (Boundary f) v) → From Inner (inner_place a) v
  inner_step e v a b w same pair on =
      let h : IsPoint sig x.member b = inside.points b a (inside.back a b w) in
      let f = end_of sig n x name net inside redex naming b h (subst (IsOfPair x) (sym same) pair) in
      let r = on f.0 (sym same ∙ ap (stands_for sig x name) f.1) in
      (f.0 ∷ r.0, r.1, ((a, b, inside_at a, f.1, w), r.2), r.3)

  -- a path that begins outside, from its place; one that begins inside, from that of its first wire
  abbrev Placed : Side → Point A → Point A → Type 0
  Placed Outer u v = (p : Place A B) → IsBefore sig x p u → From Outer p v
  Placed Inner u v = (a : Point B) × (stands_for sig x name a ≡ u) × IsPoint sig x.member a × From Inner (inner_place a) v

  placed : (s : Side) (u : Point A) (es : List (Point A)) (v : Point A) → (IsOfPair x v → ⊥) → Alternates (wire_of sig n x name) (IsOfPair x) s u es v → Placed s u v
  placed Outer u [] v h w = λ p at. let o = old_place v h in ([], o.0, (u, v, at, o.1, w), o.2)
  placed Inner u [] v h w = (
    w.0,
    w.2,
    inside.points w.0 w.1 w.4,
    (
      [],
      inner_place w.1,
      (w.0, w.1, inside_at w.0, inside_at w.1, w.4),
      subst (λ z. Ends z (inner_place w.1)) w.3 (new_end w.1 (λ o. h (subst (IsOfPair x) w.3 o))),
    ),
  )
  placed Outer u (e ∷ es) v h w =
      let r = placed Inner e es v h w.2 in
      let f = end_of sig n x name net inside redex naming r.0 r.2 (subst (IsOfPair x) (sym r.1) w.1) in
      let k : From Inner (Boundary f.0) v = subst (λ a. From Inner (inner_place a) v) f.1 r.3 in
      λ p at. (f.0 ∷ k.0, k.1, ((u, e, at, sym r.1 ∙ ap (stands_for sig x name) f.1, w.0), k.2), k.3)
  placed Inner u (e ∷ es) v h w =
      let r = placed Outer e es v h w.2 in
      let i = w.0 in
      (i.0, i.2, inside.points i.0 i.1 i.4, inner_step e v i.0 i.1 i.4 i.3 w.1 (λ f at. r (Boundary f) at))

  outer_joined : (u v : Point A) (p : Place A B) → IsBefore sig x p u → Ends u p → From Outer p v → (p q : Place A B) × IsAfter (name_after name) p u × IsAfter (name_after name) q v × IsJoined (wires sig n x) p q
  outer_joined u v (Old y i) at ends r = (Old y i, r.1, ends.0, r.3.0, (tt, r.3.1, (r.0, r.2)))
  outer_joined u v (New y i) at ends r = absurd at
  outer_joined u v (Boundary e) at ends r = absurd ends.1
  outer_joined u v (Loose k) at ends r = (Loose k, r.1, ends.0, r.3.0, (tt, r.3.1, (r.0, r.2)))

  inner_joined : (u v : Point A) (a : Point B) → stands_for sig x name a ≡ u → (IsOfPair x u → ⊥) → From Inner (inner_place a) v → (p q : Place A B) × IsAfter (name_after name) p u × IsAfter (name_after name) q v × IsJoined (wires sig n x) p q
  inner_joined u v (Port k i) same h r = (New k i, r.1, sym same, r.3.0, (tt, r.3.1, (r.0, r.2)))
  inner_joined u v (Free e) same h r = absurd (h (subst (IsOfPair x) same (end_of_pair sig n x name net inside redex naming e)))

  pub joined_places : (u v : Point A) → AreJoined sig n x name u v → (p q : Place A B) × IsAfter (name_after name) p u × IsAfter (name_after name) q v × IsJoined (wires sig n x) p q
  joined_places u v j = go j.2.0 j.2.2
    where
      go : (s : Side) → Alternates (wire_of sig n x name) (IsOfPair x) s u j.2.1 v → (p q : Place A B) × IsAfter (name_after name) p u × IsAfter (name_after name) q v × IsJoined (wires sig n x) p q
      go Outer w = let o = old_place u j.0 in outer_joined u v o.0 o.1 o.2 (placed Outer u j.2.1 v j.1 w o.0 o.1)
      go Inner w = let r = placed Inner u j.2.1 v j.1 w in inner_joined u v r.0 r.1 j.0 r.3

  -- agents that are there have names of their own
  apart_names : (l m : A ⊎ B) (s t : ℕ) → HasSymbol n x l s → HasSymbol n x m t → name_after name l ≡ name_after name m → l ≡ m
  apart_names (inl y) (inl z) s t h k e = ap (λ y. inl y) e
  apart_names (inr y) (inr z) s t h k e = ap (λ y. inr y) (naming.apart y z s t h k e)
  apart_names (inl y) (inr z) s t h k e = let u : n.symbol y ≡ None = ap n.symbol e ∙ naming.fresh z t k in let v : n.symbol y ≡ Some s = h.2 in cc
  apart_names (inr y) (inl z) s t h k e = let u : n.symbol z ≡ None = ap n.symbol (sym e) ∙ naming.fresh y s h in let v : n.symbol z ≡ Some t = k.2 in cc

  pub by_places : (after : Net A) → IsStep sig n x name after → IsByPlaces sig n x (name_after name) after
  by_places after step = record {
    apart = apart_names;
    kept = λ m s h. kept_symbol m s h;
    wired = λ u v e. joined_places u v ((step.wires u v).0 e);
  }
    where
      kept_symbol : (m : A ⊎ B) (s : ℕ) → HasSymbol n x m s → after.symbol (name_after name m) ≡ Some s
      kept_symbol (inl y) s h = (step.agents y s).1 (inl h)
      kept_symbol (inr k) s h = (step.agents (name k) s).1 (inr (k, refl, h))
