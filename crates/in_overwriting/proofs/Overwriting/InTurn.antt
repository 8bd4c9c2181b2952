-- The wires of a right member, written one after another.
use Rattle.std.proofs.Common.{◌≡◌, ◌⊎◌, ◌≤◌, ℕ, suc, Option, Some, List, [], ◌∷◌, map, slice_get, arith, refl, sym, subst, ap, inl, inr, ◌∙◌}
use Rattle.in_base.specs.Lists.{IsAmong}
use Rattle.in_net.specs.Nets.{Point, Port, Free, Signature, Net, IsNet}
use Rattle.in_base.proofs.Among.{among_left, among_right, among_either, among_at, in_map, of_map}
use Rattle.in_net.specs.Interactions.{Redex}
use Rattle.in_overwriting.specs.Overwriting.{CanOverwrite, IsSideAt, AreSidesOf, IsSide, AreOverwritten}
use Rattle.in_overwriting.specs.InTurn.{AreAllWiresOf, AreStored, StoresInTurn, no_wire, wire_first, IsAsBefore, StoredAreOverwritten, AreWiresWithin, in_two_parts, WiresInTwoParts}
use Rattle.in_overwriting.specs.MadeByWires.{LeadsFrom, AreOverEnds}
use Rattle.in_overwriting.proofs.Overwriting.Sides.{near, side_once, sides_once, stays}
use Rattle.in_interaction.proofs.Public.{same_point}

module _ (sig : Signature) (n : Net ℕ) (x : Redex ℕ ℕ) (name : ℕ → ℕ) (can : CanOverwrite sig n x name) where
  abbrev Partners : Type 0
  Partners = Point ℕ → Option (Point ℕ)

  abbrev Sides : Point ℕ → Point ℕ → Type 0
  Sides = AreSidesOf x.member (IsSideAt sig n x name)

  abbrev At : Point ℕ → Point ℕ → Type 0
  At = IsSideAt sig n x name

  abbrev Stores : List (Point ℕ × Point ℕ) → Partners → Partners → Type 0
  Stores = StoresInTurn sig n x name

  abbrev AreWires : List (Point ℕ × Point ℕ) → Type 0
  AreWires ws = (p q : Point ℕ) → IsAmong (p, q) ws → x.member.partner p ≡ Some q

  turned : (u v : Point ℕ) → Sides u v → Sides v u
  turned u v a = (a.1, a.0, can.inside.back a.0 a.1 a.2, a.4, a.3)

  -- the partner that is written at a side stays
  keeps_one : (u v c d : Point ℕ) (f g : Partners) → Sides u v → Sides c d → AreStored c d f g → f u ≡ Some v → g u ≡ Some v
  keeps_one u v c d f g a b stored h = go (same_point u c) (same_point u d)
    where
      go : Dec (u ≡ c) → Dec (u ≡ d) → g u ≡ Some v
      go (yes e) k = ap g e ∙ stored.one ∙ ap (λ z. Some z) (sides_once sig n x name can u d v (subst (λ z. Sides z d) (sym e) b) a)
      go (no i) (yes e) = ap g e ∙ stored.two ∙ ap (λ z. Some z) (sides_once sig n x name can u c v (subst (λ z. Sides z c) (sym e) (turned c d b)) a)
      go (no i) (no j) = stored.others u i j ∙ h

  keeps : (ws : List (Point ℕ × Point ℕ)) (f h : Partners) → Stores ws f h → AreWires ws → (u v : Point ℕ) → Sides u v → f u ≡ Some v → h u ≡ Some v
  keeps _ _ _ (no_wire _) wires u v a e = e
  keeps _ _ _ (wire_first p q ws c d f g h s t stored rest) wires u v a e =
      keeps ws g h rest (λ y z i. wires y z (inr i)) u v a (keeps_one u v c d f g a (p, q, wires p q (inl refl), s, t) stored e)

  stored_at : (ws : List (Point ℕ × Point ℕ)) (f h : Partners) → Stores ws f h → AreWires ws → (p q u v : Point ℕ) → IsAmong (p, q) ws → At p u → At q v → (h u ≡ Some v) × (h v ≡ Some u)
  stored_at _ _ _ (no_wire _) wires p q u v i s t = absurd i
  stored_at _ _ _ (wire_first p q ws c d f g h s t stored rest) wires y z u v (inl e) k l =
      let one : c ≡ u = side_once sig n x name can y c u (subst (λ p. At p c) (ap (λ (w : Point ℕ × Point ℕ). w.0) e) s) k in
      let two : d ≡ v = side_once sig n x name can z d v (subst (λ q. At q d) (ap (λ (w : Point ℕ × Point ℕ). w.1) e) t) l in
      let a : Sides c d = (p, q, wires p q (inl refl), s, t) in
      let ahead : AreWires ws = λ y z i. wires y z (inr i) in (
        subst (λ u. h u ≡ Some v) one (subst (λ v. h c ≡ Some v) two (keeps ws g h rest ahead c d a stored.one)),
        subst (λ v. h v ≡ Some u) two (subst (λ u. h d ≡ Some u) one (keeps ws g h rest ahead d c (turned c d a) stored.two)),
      )
  stored_at _ _ _ (wire_first p q ws c d f g h s t stored rest) wires y z u v (inr i) k l =
      stored_at ws g h rest (λ y z i. wires y z (inr i)) y z u v i k l

  -- and nothing is written elsewhere
  untouched : (ws : List (Point ℕ × Point ℕ)) (f h : Partners) → Stores ws f h → AreWires ws → (u : Point ℕ) → (IsSide sig n x name u → ⊥) → h u ≡ f u
  untouched _ _ _ (no_wire _) wires u clear = refl
  untouched _ _ _ (wire_first p q ws c d f g h s t stored rest) wires u clear =
      let a : Sides c d = (p, q, wires p q (inl refl), s, t) in
      untouched ws g h rest (λ y z i. wires y z (inr i)) u clear
      ∙ stored.others u (λ e. clear (subst (IsSide sig n x name) (sym e) (d, a))) (λ e. clear (subst (IsSide sig n x name) (sym e) (c, turned c d a)))

  pub overwritten : (ws : List (Point ℕ × Point ℕ)) (f h : Partners) → AreAllWiresOf x.member ws → IsAsBefore sig n x name f → Stores ws f h → AreOverwritten sig n x name h
  overwritten ws f h wires before stores = record {
    written = λ u v a. (elim (wires.all a.0 a.1 a.2) [
      | inl i ↦ (stored_at ws f h stores wires.wire a.0 a.1 u v i a.3 a.4).0
      | inr i ↦ (stored_at ws f h stores wires.wire a.1 a.0 v u i a.4 a.3).1
    ]);
    gone = λ u o. untouched ws f h stores wires.wire u (λ s. stays sig n x name can s.1.0 u (near sig n x name can s.1.0 s.1.1 s.1.2) s.1.3 o) ∙ before.gone u o;
    kept = λ u hu clear. untouched ws f h stores wires.wire u clear ∙ before.kept u hu clear;
  }

pub stored_are_overwritten : StoredAreOverwritten
stored_are_overwritten sig n x name ws f h can wires before stores = overwritten sig n x name can ws f h wires before stores

-- ---- the list in two parts

module _ (sig : Signature) (m : Net ℕ) (over : List (ℕ × Point ℕ)) (within : List (Point ℕ × Point ℕ)) (net : IsNet sig m) (ends : AreOverEnds m over) (inner : AreWiresWithin m within) where
  abbrev as_wire : ℕ × Point ℕ → Point ℕ × Point ℕ
  as_wire w = (Free w.0, w.1)

  abbrev wires : List (Point ℕ × Point ℕ)
  wires = in_two_parts over within

  at_index : (ws : List (ℕ × Point ℕ)) (w : ℕ × Point ℕ) → IsAmong w ws → (k : ℕ) × (slice_get ws k ≡ Some w)
  at_index [] w h = absurd h
  at_index (v ∷ ws) w (inl e) = (0, ap (λ z. Some z) e)
  at_index (v ∷ ws) w (inr h) = let r = at_index ws w h in (suc r.0, r.1)

  wire : (p q : Point ℕ) → IsAmong (p, q) wires → m.partner p ≡ Some q
  wire p q h = elim (among_either (p, q) (map as_wire over) within h) [
    | inl i ↦ (
        let w = of_map as_wire over (p, q) i in
        let at = at_index over w.0 w.1 in
        let leads = ends.each at.0 w.0 at.1 in
        ap m.partner (sym (ap (λ (z : Point ℕ × Point ℕ). z.0) w.2)) ∙ leads.wire ∙ ap (λ (z : Point ℕ × Point ℕ). Some z.1) w.2
        )
    | inr i ↦ inner.wire p q i
  ]

  leads_in : (e : ℕ) (p : Point ℕ) → LeadsFrom m e p → IsAmong (Free e, p) wires
  leads_in e p leads =
      let at = ends.all (e, p) leads in
      among_left (Free e, p) (map as_wire over) within (in_map as_wire over (e, p) (among_at over at.0 (e, p) at.1))

  to_port : (e k i : ℕ) → m.partner (Free e) ≡ Some (Port k i) → IsAmong (Free e, Port k i) wires
  to_port e k i w = leads_in e (Port k i) (record { wire = w; lowest = λ d is. (let c : ⊥ = cc in absurd c) })

  to_end : (e f : ℕ) → m.partner (Free e) ≡ Some (Free f) → e ≤ f → IsAmong (Free e, Free f) wires
  to_end e f w low = leads_in e (Free f) (record { wire = w; lowest = λ d is. (let same : f ≡ d = cc in omega (arith, low, same)) })

  all : (p q : Point ℕ) → m.partner p ≡ Some q → IsAmong (p, q) wires ⊎ IsAmong (q, p) wires
  all (Port k i) (Port l j) w = elim (inner.all k l i j w) [
    | inl h ↦ inl (among_right (Port k i, Port l j) (map as_wire over) within h)
    | inr h ↦ inr (among_right (Port l j, Port k i) (map as_wire over) within h)
  ]
  all (Port k i) (Free f) w = inr (to_port f k i (net.back (Port k i) (Free f) w))
  all (Free e) (Port l j) w = inl (to_port e l j w)
  all (Free e) (Free f) w = go (le_or_le e f)
    where
      le_or_le : (e f : ℕ) → (e ≤ f) ⊎ (f ≤ e)
      le_or_le e f = grind arith

      go : (e ≤ f) ⊎ (f ≤ e) → IsAmong (Free e, Free f) wires ⊎ IsAmong (Free f, Free e) wires
      go (inl low) = inl (to_end e f w low)
      go (inr low) = inr (to_end f e (net.back (Free e) (Free f) w) low)

pub wires_in_two_parts : WiresInTwoParts
wires_in_two_parts sig m over within net ends inner = record { wire = wire sig m over within net ends inner; all = all sig m over within net ends inner }
