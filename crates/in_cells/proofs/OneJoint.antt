-- One boundary end joined: the net shown before, and the net shown after.
use Rattle.std.proofs.Common.{◌≡◌, ◌≢◌, ◌⊎◌, ◌+◌, ◌<◌, ◌≤◌, ℕ, suc, List, length, slice_get, Some, refl, sym, ap, subst, ◌∙◌, inl, inr, arith}
use native.Mathlib.Decide.{ℕ_discrete}
use Rattle.std.specs.Prelude.{IsSome}
use Rattle.in_base.proofs.Places.{some_same, is_some as some_here}
use Rattle.in_arena.specs.Arenas.{ArenaView}
use Rattle.in_arena.specs.declared.content.End.{End}
use Rattle.in_interaction.proofs.Public.{has_value, same_free, same_point}
use Rattle.in_net.specs.Nets.{Point, Port, Free, Net}
use Rattle.in_gluing.specs.Joining.{JoinsEnds, WiresLeadBack, IsNeither, ArePartnersAfter}
use Rattle.in_cells.specs.Cells.{KeepsCells}
use Rattle.in_cells.specs.Shown.{end_of, stands_at, IsPlaceAt, IsSideBelow, IsPointUpTo, IsShownUpTo, AreExchanged}
use Rattle.in_cells.proofs.Kept.{word_kept, places_kept}
use Rattle.in_cells.proofs.Writes.{end_point, exchange_keeps, stands_one, stands_two, stands_still}

-- a point that is there can be written
pub can_write : (own many e : ℕ) (a : ArenaView) (es : List End) (u : Point ℕ) → e ≤ many → own + many + many ≤ length es → IsPointUpTo a own many e u → IsPlaceAt a es (end_of u)
can_write own many e a es (Port y i) low room h = h
can_write own many e a es (Free k) low room (inl h) = omega (arith, h, room)
can_write own many e a es (Free k) low room (inr (d, below, inl h)) = omega (arith, h, below, low, room)
can_write own many e a es (Free k) low room (inr (d, below, inr h)) = omega (arith, h, below, low, room)

module _ (own many e : ℕ) where
  abbrev outer : Point ℕ
  outer = Free (own + e)

  abbrev inner : Point ℕ
  inner = Free (own + many + e)

  outer_below : IsSideBelow own many (suc e) outer
  outer_below = (e, omega arith, inl refl)

  inner_below : IsSideBelow own many (suc e) inner
  inner_below = (e, omega arith, inr refl)

  -- a side below this end is one below the next end too, and none of the two sides of this end
  side_more : (u : Point ℕ) → IsSideBelow own many e u → IsSideBelow own many (suc e) u
  side_more (Port y i) h = h
  side_more (Free k) h = let l = h.1 in (h.0, omega (arith, l), h.2)

  side_less : (u : Point ℕ) → u ≢ outer → u ≢ inner → IsSideBelow own many (suc e) u → IsSideBelow own many e u
  side_less (Port y i) one two h = h
  side_less (Free k) one two (d, below, h) = go h (ℕ_discrete d e)
    where
      go : (k ≡ own + d) ⊎ (k ≡ own + many + d) → Dec (d ≡ e) → (d : ℕ) × (d < e) × ((k ≡ own + d) ⊎ (k ≡ own + many + d))
      go h (no other) = (d, (let l : d < e = omega (arith, other, below) in l), h)
      go (inl h) (yes same) = absurd (one (ap (λ (k : ℕ). Free k) (h ∙ ap (λ (d : ℕ). own + d) same)))
      go (inr h) (yes same) = absurd (two (ap (λ (k : ℕ). Free k) (h ∙ ap (λ (d : ℕ). own + many + d) same)))

  apart : e < many → (u : Point ℕ) → IsSideBelow own many e u → (u ≢ outer) × (u ≢ inner)
  apart low (Port y i) h = absurd h
  apart low (Free k) (d, below, inl h) = ((λ s. (let t = same_free k (own + e) s in omega (arith, t, h, below, low))), (λ s. (let t = same_free k (own + many + e) s in omega (arith, t, h, below, low))))
  apart low (Free k) (d, below, inr h) = ((λ s. (let t = same_free k (own + e) s in omega (arith, t, h, below, low))), (λ s. (let t = same_free k (own + many + e) s in omega (arith, t, h, below, low))))

  point_apart : (a : ArenaView) → e < many → (u : Point ℕ) → IsPointUpTo a own many e u → (u ≢ outer) × (u ≢ inner)
  point_apart a low (Port y i) h = ((λ s. cc), (λ s. cc))
  point_apart a low (Free k) (inl h) = ((λ s. (let t = same_free k (own + e) s in omega (arith, t, h))), (λ s. (let t = same_free k (own + many + e) s in omega (arith, t, h))))
  point_apart a low (Free k) (inr h) = apart low (Free k) h

  module _ (a : ArenaView) (b : ArenaView) (kept : KeepsCells a b) where
    point_more : (u : Point ℕ) → IsPointUpTo b own many e u → IsPointUpTo a own many (suc e) u
    point_more (Port y i) h = subst (λ (n : ℕ). i < n) (places_kept a b kept y) h
    point_more (Free k) (inl h) = inl h
    point_more (Free k) (inr h) = inr (side_more (Free k) h)

    point_less : (u : Point ℕ) → u ≢ outer → u ≢ inner → IsPointUpTo a own many (suc e) u → IsPointUpTo b own many e u
    point_less (Port y i) one two h = subst (λ (n : ℕ). i < n) (sym (places_kept a b kept y)) h
    point_less (Free k) one two (inl h) = inl h
    point_less (Free k) one two (inr h) = inr (side_less (Free k) one two h)

-- the points at the two sides of an end that is not joined
pub record AreAtSides (own many e : ℕ) (a : ArenaView) (es : List End) (m : Net ℕ) : Type 0 where
  pub p : Point ℕ
  pub q : Point ℕ
  pub outer : m.partner (Free (own + e)) ≡ Some p
  pub inner : m.partner (Free (own + many + e)) ≡ Some q
  pub stands_outer : slice_get es (own + e) ≡ Some (end_of p)
  pub stands_inner : slice_get es (own + many + e) ≡ Some (end_of q)
  pub at_p : IsPlaceAt a es (end_of p)
  pub at_q : IsPlaceAt a es (end_of q)
  pub differ : p ≢ q

pub sides_at : (own many e : ℕ) (a : ArenaView) (es : List End) (m : Net ℕ) → WiresLeadBack m → e < many → IsShownUpTo own many (suc e) a es m → AreAtSides own many e a es m
sides_at own many e a es m back low shown = record {
  p = p.0;
  q = q.0;
  outer = p.1;
  inner = q.1;
  stands_outer = shown.wires (Free (own + e)) p.0 p.1 (inl (outer_below own many e));
  stands_inner = shown.wires (Free (own + many + e)) q.0 q.1 (inl (inner_below own many e));
  at_p = can_write own many (suc e) a es p.0 low shown.room ((shown.points p.0).0 (some_here (m.partner p.0) (Free (own + e)) (back.0 (Free (own + e)) p.0 p.1)));
  at_q = can_write own many (suc e) a es q.0 low shown.room ((shown.points q.0).0 (some_here (m.partner q.0) (Free (own + many + e)) (back.0 (Free (own + many + e)) q.0 q.1)));
  differ = λ same. (
      let one : m.partner p.0 ≡ Some (Free (own + e)) = back.0 (Free (own + e)) p.0 p.1 in
      let two : m.partner q.0 ≡ Some (Free (own + many + e)) = back.0 (Free (own + many + e)) q.0 q.1 in
      let both : Free (own + e) ≡ Free (own + many + e) = some_same (m.partner q.0) (Free (own + e)) (Free (own + many + e)) (ap m.partner (sym same) ∙ one) two in
      let number = same_free (own + e) (own + many + e) both in
      omega (arith, number, low)
      );
}
  where
    p : (p : Point ℕ) × (m.partner (Free (own + e)) ≡ Some p)
    p = has_value (m.partner (Free (own + e))) ((shown.points (Free (own + e))).1 (inr (outer_below own many e)))

    q : (q : Point ℕ) × (m.partner (Free (own + many + e)) ≡ Some q)
    q = has_value (m.partner (Free (own + many + e))) ((shown.points (Free (own + many + e))).1 (inr (inner_below own many e)))

module _ (own many e : ℕ) (a : ArenaView) (es : List End) (m : Net ℕ) (back : WiresLeadBack m) (low : e < many) (shown : IsShownUpTo own many (suc e) a es m)
    (at : AreAtSides own many e a es m) (b : ArenaView) (fs : List End) (written : AreExchanged (end_of at.p) (end_of at.q) a es b fs) (w : Net ℕ) (ends : JoinsEnds m (own + e) (own + many + e) w) where
  abbrev one_side : Point ℕ
  one_side = Free (own + e)

  abbrev other_side : Point ℕ
  other_side = Free (own + many + e)

  kept : KeepsCells a b × (length fs ≡ length es)
  kept = exchange_keeps (end_of at.p) (end_of at.q) a es b fs at.at_p at.at_q written

  back_p : m.partner at.p ≡ Some one_side
  back_p = back.0 one_side at.p at.outer

  back_q : m.partner at.q ≡ Some other_side
  back_q = back.0 other_side at.q at.inner

  -- a wire of the net after: it was there before, or it is the one that is new
  data Wire (u v : Point ℕ) : Type 0 where
    old : m.partner u ≡ Some v → u ≢ at.p → u ≢ at.q → Wire u v
    forth : u ≡ at.p → v ≡ at.q → Wire u v
    across : u ≡ at.q → v ≡ at.p → Wire u v

  wire_of : (u v : Point ℕ) → w.partner u ≡ Some v → Wire u v
  wire_of u v h = go ((ends.wires u v).0 h).1 ((ends.wires u v).0 h).2
    where
      go : IsNeither (own + e) (own + many + e) v → ArePartnersAfter m (own + e) (own + many + e) u v → Wire u v
      go neither (inl k) = old k
          (λ s. neither.0 (some_same (m.partner u) v one_side k (ap m.partner s ∙ back_p)))
          (λ s. neither.1 (some_same (m.partner u) v other_side k (ap m.partner s ∙ back_q)))
      go neither (inr (inl k)) = forth
          (some_same (m.partner one_side) u at.p (back.0 u one_side k.0) at.outer)
          (some_same (m.partner other_side) v at.q k.1 at.inner)
      go neither (inr (inr k)) = across
          (some_same (m.partner other_side) u at.q (back.0 u other_side k.0) at.inner)
          (some_same (m.partner one_side) v at.p k.1 at.outer)

  had_wire : (u v : Point ℕ) → Wire u v → IsSome (m.partner u)
  had_wire u v (old h one two) = some_here (m.partner u) v h
  had_wire u v (forth s t) = some_here (m.partner u) one_side (ap m.partner s ∙ back_p)
  had_wire u v (across s t) = some_here (m.partner u) other_side (ap m.partner s ∙ back_q)

  -- a point that isn't one of the two sides keeps a partner
  has_wire : (u : Point ℕ) → u ≢ one_side → u ≢ other_side → IsSome (m.partner u) → IsSome (w.partner u)
  has_wire u one two some = let v = has_value (m.partner u) some in go v.0 v.1 (same_point v.0 one_side) (same_point v.0 other_side)
    where
      go : (v : Point ℕ) → m.partner u ≡ Some v → Dec (v ≡ one_side) → Dec (v ≡ other_side) → IsSome (w.partner u)
      go v h (no c) (no d) = some_here (w.partner u) v ((ends.wires u v).1 ((one, two), (c, d), inl h))
      go v h (yes s) d =
          let here : m.partner u ≡ Some one_side = h ∙ ap (λ (v : Point ℕ). Some v) s in
          let not_one : at.q ≢ one_side = (λ k. two (some_same (m.partner one_side) u other_side (back.0 u one_side here) (ap m.partner (sym k) ∙ back_q))) in
          let not_two : at.q ≢ other_side = (λ k. back.1 other_side (at.inner ∙ ap (λ (v : Point ℕ). Some v) k)) in
          some_here (w.partner u) at.q ((ends.wires u at.q).1 ((one, two), (not_one, not_two), inr (inl (here, at.inner))))
      go v h (no c) (yes s) =
          let here : m.partner u ≡ Some other_side = h ∙ ap (λ (v : Point ℕ). Some v) s in
          let not_one : at.p ≢ one_side = (λ k. back.1 one_side (at.outer ∙ ap (λ (v : Point ℕ). Some v) k)) in
          let not_two : at.p ≢ other_side = (λ k. one (some_same (m.partner other_side) u one_side (back.0 u other_side here) (ap m.partner (sym k) ∙ back_p))) in
          some_here (w.partner u) at.p ((ends.wires u at.p).1 ((one, two), (not_one, not_two), inr (inr (here, at.outer))))

  points_forth : (u : Point ℕ) → IsSome (w.partner u) → IsPointUpTo b own many e u
  points_forth u some =
      let v = has_value (w.partner u) some in
      let neither = ((ends.wires u v.0).0 v.1).0 in
      point_less own many e a b kept.0 u neither.0 neither.1 ((shown.points u).0 (had_wire u v.0 (wire_of u v.0 v.1)))

  points_back : (u : Point ℕ) → IsPointUpTo b own many e u → IsSome (w.partner u)
  points_back u there =
      let far = point_apart own many e b low u there in
      has_wire u far.0 far.1 ((shown.points u).1 (point_more own many e a b kept.0 u there))

  stands : (u v : Point ℕ) → w.partner u ≡ Some v → IsSideBelow own many e u ⊎ (IsSideBelow own many e v → ⊥) → stands_at b fs u ≡ Some (end_of v)
  stands u v h side = go (wire_of u v h)
    where
      neither : IsNeither (own + e) (own + many + e) v
      neither = ((ends.wires u v).0 h).1

      wider : IsSideBelow own many e u ⊎ (IsSideBelow own many e v → ⊥) → IsSideBelow own many (suc e) u ⊎ (IsSideBelow own many (suc e) v → ⊥)
      wider (inl s) = inl (side_more own many e u s)
      wider (inr s) = inr (λ t. s (side_less own many e v neither.0 neither.1 t))

      go : Wire u v → stands_at b fs u ≡ Some (end_of v)
      go (old k one two) =
          stands_still (end_of at.p) (end_of at.q) a es b fs at.at_p at.at_q written u (λ s. one (s ∙ end_point at.p)) (λ s. two (s ∙ end_point at.q))
          ∙ shown.wires u v k (wider side)
      go (forth s t) =
          ap (stands_at b fs) (s ∙ sym (end_point at.p))
          ∙ stands_one (end_of at.p) (end_of at.q) a es b fs at.at_p at.at_q written (λ k. at.differ (sym (end_point at.p) ∙ k ∙ end_point at.q))
          ∙ ap (λ (v : Point ℕ). Some (end_of v)) (sym t)
      go (across s t) =
          ap (stands_at b fs) (s ∙ sym (end_point at.q))
          ∙ stands_two (end_of at.p) (end_of at.q) a es b fs at.at_p at.at_q written
          ∙ ap (λ (v : Point ℕ). Some (end_of v)) (sym t)

  pub shown_next : IsShownUpTo own many e b fs w
  shown_next = record {
    agents = λ y s. (
      (λ h. word_kept a b kept.0 y ∙ (shown.agents y s).0 ((ends.agents y s).0 h)),
      (λ h. (ends.agents y s).1 ((shown.agents y s).1 (sym (word_kept a b kept.0 y) ∙ h))),
    );
    points = λ u. ((λ h. points_forth u h), (λ h. points_back u h));
    wires = λ u v h side. stands u v h side;
    room = subst (λ (n : ℕ). own + many + many ≤ n) (sym kept.1) shown.room;
  }
