-- Two free ends that are joined in cells: the net that the cells and the list of ends show before and after.
use Rattle.std.proofs.Common.{◌≡◌, ◌⊎◌, inl, inr, ◌<◌, ◌≤◌, ◌+◌, ℕ, zero, suc, Option, Some, None, List, [], ◌∷◌, length, take, slice_get, refl, sym, ap, subst, ◌∙◌, arith}
use Rattle.std.specs.Prelude.{option_map, IsSome}
use Rattle.std.proofs.lemmas.List.{length-take-le}
use Rattle.std.proofs.lemmas.Option.{same_Some, slice_get_within}
use Rattle.in_arena.specs.Arenas.{ArenaView, state_at}
use Rattle.in_arena.specs.States.{State, Vacant, Leased, Live, places, end_at}
use Rattle.in_arena.specs.declared.content.End.{End}
use Rattle.in_interaction.proofs.Public.{has_value}
use Rattle.in_net.specs.Nets.{Point, Port, Free, Net, Signature}
use Rattle.in_gluing.specs.Joining.{JoinsEnds, WiresLeadBack}
use Rattle.in_gluing.proofs.Public.{join_exists}
use Rattle.in_cells.specs.Cells.{KeepsCells}
use Rattle.in_cells.specs.Shown.{point_of, end_of, stands_at, IsPointUpTo, IsShown, IsShownUpTo, AreExchanged}
use Rattle.in_cells.proofs.AllShown.{place_within, shown_all, take_at}
use Rattle.in_cells.proofs.OneJoint.{AreAtSides, shown_next, sides_at}
use Rattle.in_cells.proofs.Writes.{exchange_keeps, point_end}
use Rattle.in_cells.specs.Cutting.{Shows}
use Rattle.in_cells.proofs.CutInCells.{stands_some}

-- a place of a cell holds an end
pub end_there : (s : State) (i : ℕ) → i < places s → IsSome (end_at s i)
end_there Vacant i l = absurd (omega (arith, l))
end_there Leased i l = absurd (omega (arith, l))
end_there (Live w es) i l = at es i l
  where
    at : (es : List End) (i : ℕ) → i < length es → IsSome (slice_get es i)
    at [] i l = absurd (omega (arith, l))
    at (e ∷ es) zero l = refl
    at (e ∷ es) (suc i) l = at es i (omega (arith, l))

there_at : {X : Type 0} (es : List X) (i : ℕ) → i < length es → IsSome (slice_get es i)
there_at [] i l = absurd (omega (arith, l))
there_at (e ∷ es) zero l = refl
there_at (e ∷ es) (suc i) l = there_at es i (omega (arith, l))

pub mapped_some : {X Y : Type 0} (f : X → Y) (o : Option X) → IsSome o → IsSome (option_map f o)
mapped_some f (Some x) h = refl
mapped_some f None h = h

module _ (sig : Signature) (f : ℕ) (a : ArenaView) (es : List End) (m : Net ℕ) (before : Shows sig (f + 2) a es m) (long : f + 2 ≤ length es) where
  back : WiresLeadBack m
  back = (before.net.back, before.net.apart)

  many : length m.free ≡ suc (suc f)
  many = let e = before.many in omega (arith, e)

  -- one boundary end, whose two sides are the last two free ends
  point_forth : (u : Point ℕ) → IsSome (m.partner u) → IsPointUpTo a f 1 1 u
  point_forth (Port y i) some =
      let v = has_value (m.partner (Port y i)) some in
      let s = stands_some (end_at (state_at a y) i) v.0 (sym (before.shown.wires (Port y i)) ∙ v.1) in
      place_within (state_at a y) i s.0 s.1
  point_forth (Free k) some =
      let v = has_value (m.partner (Free k)) some in
      let l : k < length m.free = before.net.points (Free k) v.0 v.1 in
      let n = many in
      let c : (k < f) ⊎ (k ≡ f) ⊎ (k ≡ suc f) = grind (arith, l, n) in
      elim c [
        | inl low ↦ inl low
        | inr c ↦ elim c [
          | inl e ↦ inr (0, (omega arith), inl (omega (arith, e)))
          | inr e ↦ inr (0, (omega arith), inr (omega (arith, e)))
        ]
      ]

  free_some : (k : ℕ) → k < f + 2 → IsSome (m.partner (Free k))
  free_some k l = before.net.joined (Free k) (let n = many in let q : k < length m.free = omega (arith, l, n) in q)

  point_back : (u : Point ℕ) → IsPointUpTo a f 1 1 u → IsSome (m.partner u)
  point_back (Port y i) l = subst IsSome (sym (before.shown.wires (Port y i))) (mapped_some point_of (end_at (state_at a y) i) (end_there (state_at a y) i l))
  point_back (Free k) (inl l) = free_some k (omega (arith, l))
  point_back (Free k) (inr (d, l, inl e)) = free_some k (omega (arith, l, e))
  point_back (Free k) (inr (d, l, inr e)) = free_some k (omega (arith, l, e))

  stands : (u v : Point ℕ) → m.partner u ≡ Some v → stands_at a es u ≡ Some (end_of v)
  stands (Port y i) v h =
      let s = stands_some (end_at (state_at a y) i) v (sym (before.shown.wires (Port y i)) ∙ h) in
      s.1 ∙ ap (λ (z : End). Some z) (sym (point_end s.0) ∙ ap end_of s.2)
  stands (Free k) v h =
      let s = stands_some (slice_get (take (f + 2) es) k) v (sym (before.shown.wires (Free k)) ∙ h) in
      let l = slice_get_within (take (f + 2) es) k s.0 s.1 in
      let n = length-take-le (f + 2) es in
      sym (take_at (f + 2) k es (omega (arith, l, n))) ∙ s.1 ∙ ap (λ (z : End). Some z) (sym (point_end s.0) ∙ ap end_of s.2)

  shown : IsShownUpTo f 1 1 a es m
  shown = record {
    agents = λ y s. ((λ h. sym (before.shown.agents y) ∙ h), (λ h. before.shown.agents y ∙ h));
    points = λ u. ((λ h. point_forth u h), (λ h. point_back u h));
    wires = λ u v h side. stands u v h;
    room = omega (arith, long);
  }

  pub at : AreAtSides f 1 0 a es m
  at = sides_at f 1 0 a es m back (omega arith) shown

  -- the ends at the two free ends
  pub is_one : (one : End) → slice_get es f ≡ Some one → one ≡ end_of at.p
  is_one one h = same_Some one (end_of at.p) (sym h ∙ ap (slice_get es) (let e : f ≡ f + 0 = omega arith in e) ∙ at.stands_outer)

  pub is_other : (other : End) → slice_get es (suc f) ≡ Some other → other ≡ end_of at.q
  is_other other h = same_Some other (end_of at.q) (sym h ∙ ap (slice_get es) (let e : suc f ≡ f + 1 + 0 = omega arith in e) ∙ at.stands_inner)

  module _ (b : ArenaView) (bs : List End) (written : AreExchanged (end_of at.p) (end_of at.q) a es b bs) where
    pub kept : KeepsCells a b × (length bs ≡ length es)
    kept = exchange_keeps (end_of at.p) (end_of at.q) a es b bs at.at_p at.at_q written

    joined : (w : Net ℕ) × JoinsEnds m (f + 0) (f + 1 + 0) w × WiresLeadBack w
    joined = join_exists m (f + 0) (f + 1 + 0) (λ e. omega (arith, e)) back

    shown_after : IsShown b (take f bs) joined.0
    shown_after = shown_all f 1 b bs joined.0 (shown_next f 1 0 a es m back (omega arith) shown at b bs written joined.0 joined.1)

    module _ (n : Net ℕ) (shows : IsShown b (take f bs) n) where
      same_agent : (y : ℕ) → n.symbol y ≡ joined.0.symbol y
      same_agent y = shows.agents y ∙ sym (shown_after.agents y)

      same_wire : (u : Point ℕ) → n.partner u ≡ joined.0.partner u
      same_wire u = shows.wires u ∙ sym (shown_after.wires u)

      by_sides : JoinsEnds m (f + 0) (f + 1 + 0) n
      by_sides = record {
        agents = λ y s. ((λ h. (joined.1.agents y s).0 (sym (same_agent y) ∙ h)), (λ h. same_agent y ∙ (joined.1.agents y s).1 h));
        wires = λ u v. ((λ h. (joined.1.wires u v).0 (sym (same_wire u) ∙ h)), (λ h. same_wire u ∙ (joined.1.wires u v).1 h));
      }

      pub joins : JoinsEnds m f (suc f) n
      joins = subst (λ (i : ℕ). JoinsEnds m i (suc f) n) (let e : f + 0 ≡ f = omega arith in e) (subst (λ (i : ℕ). JoinsEnds m (f + 0) i n) (let e : f + 1 + 0 ≡ suc f = omega arith in e) by_sides)
