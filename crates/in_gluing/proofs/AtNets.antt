-- Interactions on two pairs that share no agent: one after the other is both at once, so either order gives one net.
use Rattle.std.proofs.Common.{◌≡◌, ◌≢◌, ◌⊎◌, ℕ, Some, None, List, [], ◌∷◌, refl, sym, subst, ap, inl, inr, ◌∙◌}
use Rattle.in_net.specs.Interactions.{Redex, IsRedex, Side, Outer, Inner, of_first, end_agent, Alternates, stands_for, InnerWire, wire_of, IsOfPair, IsNaming, IsStep}
use Rattle.in_net.specs.Nets.{Point, Port, Free, Signature, Net, IsPoint, IsNet}
use Rattle.in_net.proofs.Public.{cond_cases, symbol_of}
use Rattle.in_interaction.proofs.Public.{same_net}
use Rattle.in_gluing.specs.BirthNames.{wire_of_both, IsOfEither, AreJoinedByBoth, IsAfterBoth, IsStepOfBoth}
use Rattle.in_gluing.proofs.Commute.{Way, AreIndependent, After_x, Then_y, AtOnce, join, split}
use Rattle.in_gluing.proofs.Pairs.{AreApart, turned}
use Rattle.in_gluing.proofs.Points.{turned as swap}

-- the specification's paths are ways
pub to_way : {P : Type 0} (wire : Side → P → P → Type 0) (End : P → Type 0) (s : Side) (u : P) (es : List P) (v : P) → Alternates wire End s u es v → (t : Side) × Way (wire Outer) (wire Inner) End s u es t v
to_way wire End Outer u [] v w = (Outer, (refl, w))
to_way wire End Inner u [] v w = (Inner, (refl, w))
to_way wire End Outer u (e ∷ es) v w = let r = to_way wire End Inner e es v w.2 in (r.0, (w.0, w.1, r.1))
to_way wire End Inner u (e ∷ es) v w = let r = to_way wire End Outer e es v w.2 in (r.0, (w.0, w.1, r.1))

pub from_way : {P : Type 0} (wire : Side → P → P → Type 0) (End : P → Type 0) (s : Side) (u : P) (es : List P) (t : Side) (v : P) → Way (wire Outer) (wire Inner) End s u es t v → Alternates wire End s u es v
from_way wire End Outer u [] t v w = w.1
from_way wire End Inner u [] t v w = w.1
from_way wire End Outer u (e ∷ es) t v w = (w.0, w.1, from_way wire End Inner e es t v w.2)
from_way wire End Inner u (e ∷ es) t v w = (w.0, w.1, from_way wire End Outer e es t v w.2)

-- outer wires may be replaced
pub way_map : {P : Type 0} (O O' I : P → P → Type 0) (End : P → Type 0) → ((u v : P) → O u v → O' u v) → (s : Side) (u : P) (es : List P) (t : Side) (v : P) → Way O I End s u es t v → Way O' I End s u es t v
way_map O O' I End f Outer u [] t v w = (w.0, f u v w.1)
way_map O O' I End f Inner u [] t v w = w
way_map O O' I End f Outer u (e ∷ es) t v w = (f u e w.0, w.1, way_map O O' I End f Inner e es t v w.2)
way_map O O' I End f Inner u (e ∷ es) t v w = (w.0, w.1, way_map O O' I End f Outer e es t v w.2)

-- two interactions on pairs that share no agent, one after the other
pub record AreOneByOne {A B : Type 0} (sig : Signature) (n : Net A) (x y : Redex A B) (of_x of_y : B → A) (one m : Net A) : Type 0 where
  -- the right member for the first pair is a net
  pub in_x : IsNet sig x.member
  -- so is that for the second pair
  pub in_y : IsNet sig y.member
  -- the net has the first pair
  pub rx : IsRedex sig n x
  -- it has the second pair
  pub ry : IsRedex sig n y
  -- no agent is in both pairs
  pub apart : AreApart x y
  -- the new agents of the second interaction have names that the net doesn't have
  pub naming : IsNaming n y of_y
  -- the first interaction leads to this net
  pub first : IsStep sig n x of_x one
  -- the second one leads on from there
  pub second : IsStep sig one y of_y m

module _ {A B : Type 0} (sig : Signature) where
  -- the right member's points are at no port of a pair that shares no agent with its own, if its agents are new
  module _ (n : Net A) (x y : Redex A B) (of_x : B → A) (inside : IsNet sig x.member) (ry : IsRedex sig n y) (fresh : (k : B) (s : ℕ) → x.member.symbol k ≡ Some s → n.symbol (of_x k) ≡ None) (apart : AreApart x y) where
    not_there : (k : B) (z : A) (s t : ℕ) → x.member.symbol k ≡ Some s → n.symbol z ≡ Some t → of_x k ≢ z
    not_there k z s t h l e =
        let u : n.symbol z ≡ None = ap n.symbol (sym e) ∙ fresh k s h in
        cc

    not_born : (k : B) (s : ℕ) → x.member.symbol k ≡ Some s → (of_x k ≢ y.one) × (of_x k ≢ y.two)
    not_born k s h = (not_there k y.one s y.first h ry.one, not_there k y.two s y.second h ry.two)

    avoids : (p : Point B) → IsPoint sig x.member p → IsOfPair y (stands_for sig x of_x p) → ⊥
    avoids (Port k i) h e =
        let s = symbol_of sig (x.member.symbol k) i h in
        let new = not_born k s.0 s.1 in
        elim e [ inl k ↦ new.0 k | inr k ↦ new.1 k ]
    avoids (Free b) h e = go (cond_cases (of_first sig x b) x.one x.two) e
      where
        go : (end_agent sig x b ≡ x.one) ⊎ (end_agent sig x b ≡ x.two) → (end_agent sig x b ≡ y.one) ⊎ (end_agent sig x b ≡ y.two) → ⊥
        go (inl h) (inl k) = apart.one.0 (sym h ∙ k)
        go (inl h) (inr k) = apart.one.1 (sym h ∙ k)
        go (inr h) (inl k) = apart.two.0 (sym h ∙ k)
        go (inr h) (inr k) = apart.two.1 (sym h ∙ k)

    wire_avoids : (u v : Point A) → InnerWire sig x of_x u v → (IsOfPair y u → ⊥) × (IsOfPair y v → ⊥) × (IsOfPair y u → ⊥) × (IsOfPair y v → ⊥)
    wire_avoids u v w =
        let a : IsOfPair y u → ⊥ = λ h. avoids w.0 (inside.points w.0 w.1 w.4) (subst (IsOfPair y) (sym w.2) h) in
        let b : IsOfPair y v → ⊥ = λ h. avoids w.1 (inside.points w.1 w.0 (inside.back w.0 w.1 w.4)) (subst (IsOfPair y) (sym w.3) h) in
        (a, b, a, b)

  -- a port of one pair is at none that shares no agent with it
  pair_apart : (x y : Redex A B) → AreApart x y → (u : Point A) → IsOfPair x u → IsOfPair y u → ⊥
  pair_apart x y apart (Port z i) (inl h) (inl k) = apart.one.0 (sym h ∙ k)
  pair_apart x y apart (Port z i) (inl h) (inr k) = apart.one.1 (sym h ∙ k)
  pair_apart x y apart (Port z i) (inr h) (inl k) = apart.two.0 (sym h ∙ k)
  pair_apart x y apart (Port z i) (inr h) (inr k) = apart.two.1 (sym h ∙ k)
  pair_apart x y apart (Free j) h k = h

  module _ (n : Net A) (x y : Redex A B) (of_x of_y : B → A) (one m : Net A) (given : AreOneByOne sig n x y of_x of_y one m) where
    open given use {in_x, in_y, rx, ry, apart, naming, first, second}

    abbrev W : Point A → Point A → Type 0
    W u v = n.partner u ≡ Some v

    abbrev X : Point A → Point A → Type 0
    X = InnerWire sig x of_x

    abbrev Y : Point A → Point A → Type 0
    Y = InnerWire sig y of_y

    abbrev StaysX : Point A → Type 0
    StaysX u = IsOfPair x u → ⊥

    abbrev StaysY : Point A → Type 0
    StaysY u = IsOfPair y u → ⊥

    independent : AreIndependent W X Y (IsOfPair x) (IsOfPair y) StaysX StaysY
    independent = record {
      x_avoids = wire_avoids n x y of_x in_x ry first.naming.fresh apart;
      y_avoids = wire_avoids n y x of_y in_y rx naming.fresh (turned x y apart);
      x_stays = λ u h k. pair_apart x y apart u h k;
      y_stays = λ u h k. pair_apart x y apart u k h;
    }

    neither : (u : Point A) → StaysX u → StaysY u → IsOfEither x y u → ⊥
    neither u h k (inl e) = h e
    neither u h k (inr e) = k e

    wires_forth : (u v : Point A) → m.partner u ≡ Some v → AreJoinedByBoth sig n x y of_x of_y u v
    wires_forth u v e =
        let j = (second.wires u v).0 e in
        let w = to_way (wire_of sig one y of_y) (IsOfPair y) j.2.0 u j.2.1 v j.2.2 in
        let after : (u v : Point A) → one.partner u ≡ Some v → After_x W X Y (IsOfPair x) (IsOfPair y) StaysX StaysY u v = λ u v e.
        (let i = (first.wires u v).0 e in let r = to_way (wire_of sig n x of_x) (IsOfPair x) i.2.0 u i.2.1 v i.2.2 in (i.0, i.1, (i.2.0, i.2.1, r.0, r.1))) in
        let k : AtOnce W X Y (IsOfPair x) (IsOfPair y) StaysX StaysY u v = join W X Y (IsOfPair x) (IsOfPair y) StaysX StaysY independent u v (
          j.0,
          j.1,
          (j.2.0, j.2.1, w.0, way_map (λ u v. one.partner u ≡ Some v) (After_x W X Y (IsOfPair x) (IsOfPair y) StaysX StaysY) Y (IsOfPair y) after j.2.0 u j.2.1 w.0 v w.1),
        ) in
        (neither u k.0.0 k.0.1, neither v k.1.0 k.1.1, (k.2.0, k.2.1, from_way (wire_of_both sig n x y of_x of_y) (IsOfEither x y) k.2.0 u k.2.1 k.2.2 v k.2.3))

    wires_back : (u v : Point A) → AreJoinedByBoth sig n x y of_x of_y u v → m.partner u ≡ Some v
    wires_back u v j =
        let w = to_way (wire_of_both sig n x y of_x of_y) (IsOfEither x y) j.2.0 u j.2.1 v j.2.2 in
        let before : (u v : Point A) → After_x W X Y (IsOfPair x) (IsOfPair y) StaysX StaysY u v → one.partner u ≡ Some v = λ u v i.
        (first.wires u v).1 (i.0, i.1, (i.2.0, i.2.1, from_way (wire_of sig n x of_x) (IsOfPair x) i.2.0 u i.2.1 i.2.2 v i.2.3)) in
        let k : Then_y W X Y (IsOfPair x) (IsOfPair y) StaysX StaysY u v = split W X Y (IsOfPair x) (IsOfPair y) StaysX StaysY independent u v (
          ((λ h. j.0 (inl h)), (λ h. j.0 (inr h))),
          ((λ h. j.1 (inl h)), (λ h. j.1 (inr h))),
          (j.2.0, j.2.1, w.0, w.1),
        ) in
        (second.wires u v).1 (
          k.0,
          k.1,
          (
            k.2.0,
            k.2.1,
            from_way (wire_of sig one y of_y) (IsOfPair y) k.2.0 u k.2.1 k.2.2 v
                (way_map (After_x W X Y (IsOfPair x) (IsOfPair y) StaysX StaysY) (λ u v. one.partner u ≡ Some v) Y (IsOfPair y) before k.2.0 u k.2.1 k.2.2 v k.2.3),
          ),
        )

    agents_forth : (c : A) (s : ℕ) → m.symbol c ≡ Some s → IsAfterBoth n x y of_x of_y c s
    agents_forth c s e = elim ((second.agents c s).0 e) [
      | inl r ↦ elim ((first.agents c s).0 r.2) [
        | inl q ↦ inl (q.0, q.1, r.0, r.1, q.2)
        | inr q ↦ inr (inl q)
      ]
      | inr r ↦ inr (inr r)
    ]

    agents_back : (c : A) (s : ℕ) → IsAfterBoth n x y of_x of_y c s → m.symbol c ≡ Some s
    agents_back c s (inl r) = (second.agents c s).1 (inl (r.2, r.3, (first.agents c s).1 (inl (r.0, r.1, r.4))))
    agents_back c s (inr (inl r)) =
        let new = not_born n x y of_x in_x ry first.naming.fresh apart r.0 s r.2 in
        (second.agents c s).1 (inl ((λ e. new.0 (r.1 ∙ e)), (λ e. new.1 (r.1 ∙ e)), (first.agents c s).1 (inr r)))
    agents_back c s (inr (inr r)) = (second.agents c s).1 (inr r)

    -- one after the other is both at once
    pub both_at_once : IsStepOfBoth sig n x y of_x of_y m
    both_at_once = record {
      agents = λ c s. ((λ e. agents_forth c s e), (λ h. agents_back c s h));
      wires = λ u v. ((λ e. wires_forth u v e), (λ j. wires_back u v j));
      free = second.free ∙ first.free;
    }

-- if two interactions are done at once, they are done at once in either order
module _ {A B : Type 0} (sig : Signature) (n : Net A) (x y : Redex A B) (of_x of_y : B → A) where
  swap_wire : (s : Side) (u v : Point A) → wire_of_both sig n x y of_x of_y s u v → wire_of_both sig n y x of_y of_x s u v
  swap_wire Outer u v w = w
  swap_wire Inner u v w = swap w

  swap_path : (s : Side) (u : Point A) (es : List (Point A)) (v : Point A) → Alternates (wire_of_both sig n x y of_x of_y) (IsOfEither x y) s u es v → Alternates (wire_of_both sig n y x of_y of_x) (IsOfEither y x) s u es v
  swap_path s u [] v w = swap_wire s u v w
  swap_path Outer u (e ∷ es) v w = (w.0, swap w.1, swap_path Inner e es v w.2)
  swap_path Inner u (e ∷ es) v w = (swap w.0, swap w.1, swap_path Outer e es v w.2)

  swap_joined : (u v : Point A) → AreJoinedByBoth sig n x y of_x of_y u v → AreJoinedByBoth sig n y x of_y of_x u v
  swap_joined u v j = ((λ h. j.0 (swap h)), (λ h. j.1 (swap h)), (j.2.0, j.2.1, swap_path j.2.0 u j.2.1 v j.2.2))

  swap_agent : (c : A) (s : ℕ) → IsAfterBoth n x y of_x of_y c s → IsAfterBoth n y x of_y of_x c s
  swap_agent c s (inl r) = inl (r.2, r.3, r.0, r.1, r.4)
  swap_agent c s (inr r) = inr (swap r)

-- both orders at once have one result
pub one_of_both : {A B : Type 0} (sig : Signature) (n : Net A) (x y : Redex A B) (of_x of_y : B → A) (m k : Net A) → IsStepOfBoth sig n x y of_x of_y m → IsStepOfBoth sig n y x of_y of_x k → m ≡ k
one_of_both sig n x y of_x of_y m k s t =
    same_net m k
    (λ c i. ((λ e. (t.agents c i).1 (swap_agent sig n x y of_x of_y c i ((s.agents c i).0 e))), (λ e. (s.agents c i).1 (swap_agent sig n y x of_y of_x c i ((t.agents c i).0 e)))))
    (λ u v. ((λ e. (t.wires u v).1 (swap_joined sig n x y of_x of_y u v ((s.wires u v).0 e))), (λ e. (s.wires u v).1 (swap_joined sig n y x of_y of_x u v ((t.wires u v).0 e)))))
    (s.free ∙ sym t.free)

-- interactions on two pairs that share no agent give one net in either order
pub commute : {A B : Type 0} (sig : Signature) (n : Net A) (x y : Redex A B) (of_x of_y : B → A) → IsNet sig x.member → IsNet sig y.member → IsRedex sig n x → IsRedex sig n y → AreApart x y → (one other m k : Net A) → IsStep sig n x of_x one → IsStep sig one y of_y m → IsStep sig n y of_y other → IsStep sig other x of_x k → m ≡ k
commute sig n x y of_x of_y in_x in_y rx ry apart one other m k first second first' second' =
    one_of_both sig n x y of_x of_y m k
    (both_at_once sig n x y of_x of_y one m (record { in_x = in_x; in_y = in_y; rx = rx; ry = ry; apart = apart; naming = first'.naming; first = first; second = second }))
    (both_at_once sig n y x of_y of_x other k (record { in_x = in_y; in_y = in_x; rx = ry; ry = rx; apart = turned x y apart; naming = first.naming; first = first'; second = second' }))
