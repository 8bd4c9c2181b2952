-- The cells of a bag, as one is put in, written or taken out.
use Rattle.std.proofs.Common.{◌≡◌, ◌≢◌, ◌⊎◌, inl, inr, ◌≤◌, ◌<◌, ◌+◌, ℕ, List, [], ◌∷◌, ◌++◌, length, Some, slice_get, sym, ap, subst, ◌∙◌, get_or-set_same, get_or-set_other, arith}
use Rattle.std.proofs.lemmas.Bool.{cases_eq}
use Rattle.std.proofs.lemmas.List.{length-set}
use Rattle.std.proofs.lemmas.Option.{same_Some, slice_get_within}
use Rattle.in_base.proofs.Places.{last_at, more_at, kept_at}
use Rattle.in_arena.specs.Arenas.{ArenaView, changed, state_at}
use Rattle.in_arena.specs.Bags.{IsBagOf, IsInBag}
use Rattle.in_arena.specs.Changes.{AreListedOnce}
use Rattle.in_arena.specs.States.{State, Leased, IsLeased}
use Rattle.in_arena.specs.declared.content.CellNo.{CellNo}
use Rattle.in_arena.proofs.Public.{leased_or, stays}
use Rattle.in_compile.specs.Placing.{AreCellsOf, HasNoCell}
use Rattle.in_compile.specs.PlacingSteps.{AreOnTheWay}
use Rattle.in_compile.specs.Stocks.{Regains}
use Rattle.in_compile.proofs.Placements.Stocked.{in_range, not_leased, one_back, one_more_once, back_too, all_back}

module _ (b : ArenaView) (ns : List CellNo) (n : CellNo) (y : State) (h : AreCellsOf b ns) (live : IsLeased y → ⊥) where
  abbrev b' : ArenaView
  b' = changed b n.0 y

  module _ (inside : n.0 < length b.states) where
    here : IsInBag b' n.0
    here = not_leased (state_at b' n.0) y live (get_or-set_same b.states n.0 y Leased inside)

    in_by : (m : ℕ) → (m ≡ n.0) ⊎ (m ≢ n.0) → IsInBag b m → IsInBag b' m
    in_by m (inl e) in_it = subst (IsInBag b') (sym e) here
    in_by m (inr other) in_it = not_leased (state_at b' m) (state_at b m) in_it (get_or-set_other b.states n.0 m y Leased other)

  was_in : (m : ℕ) → m ≢ n.0 → IsInBag b' m → IsInBag b m
  was_in m other in_it = not_leased (state_at b m) (state_at b' m) in_it (sym (get_or-set_other b.states n.0 m y Leased other))

  -- a cell of the bag changes
  module _ (k : ℕ) (at : slice_get ns k ≡ Some n) where
    only_by : (m : ℕ) → (m ≡ n.0) ⊎ (m ≢ n.0) → IsInBag b' m → (j : ℕ) × (slice_get ns j ≡ Some (record { 0 = m }))
    only_by m (inl e) in_it = (k, at ∙ ap (λ (z : ℕ). Some (record { 0 = z })) (sym e))
    only_by m (inr other) in_it = h.only m (was_in m other in_it)

    pub cell_changed : AreCellsOf b' ns
    cell_changed = record {
      each = λ j m s. in_by (in_range b n.0 (h.each k n at)) m.0 (cases_eq m.0 n.0) (h.each j m s);
      once = h.once;
      only = λ m in_it. only_by m (cases_eq m n.0) in_it;
    }

  -- a cell is put in
  module _ (inside : n.0 < length b.states) (out : state_at b n.0 ≡ Leased) where
    apart : (j : ℕ) (m : CellNo) → slice_get ns j ≡ Some m → n ≡ m → ⊥
    apart j m s e = h.each j m s (subst IsLeased (sym (ap (λ (z : CellNo). state_at b z.0) (sym e) ∙ out)) tt)

    each_by : (j : ℕ) (m : CellNo) → (slice_get ns j ≡ Some m) ⊎ ((j ≡ length ns) × (n ≡ m)) → IsInBag b' m.0
    each_by j m (inl s) = in_by inside m.0 (cases_eq m.0 n.0) (h.each j m s)
    each_by j m (inr e) = subst (λ (z : CellNo). IsInBag b' z.0) e.1 (here inside)

    put_by : (m : ℕ) → (m ≡ n.0) ⊎ (m ≢ n.0) → IsInBag b' m → (j : ℕ) × (slice_get (ns ++ n ∷ []) j ≡ Some (record { 0 = m }))
    put_by m (inl e) in_it = (length ns, last_at ns n ∙ ap (λ (z : ℕ). Some (record { 0 = z })) (sym e))
    put_by m (inr other) in_it = let was = h.only m (was_in m other in_it) in (was.0, kept_at ns (n ∷ []) was.0 (record { 0 = m }) was.1)

    pub cell_put : AreCellsOf b' (ns ++ n ∷ [])
    cell_put = record {
      each = λ j m s. each_by j m (more_at ns n m j s);
      once = one_more_once ns n h.once apart;
      only = λ m in_it. put_by m (cases_eq m n.0) in_it;
    }

-- ---- the arena gets them back

module _ (f : State → State) (P : State → Type 0) (ns : List CellNo) where
  module _ (x : ℕ) (a b a' b' : ArenaView) (n : CellNo) (y : State) (once : AreListedOnce ns) (at : slice_get ns x ≡ Some n) (in_it : IsInBag b' n.0) (is : y ≡ f (state_at b' n.0))
      (h : AreOnTheWay f P ns x a b a' b') where
    abbrev less : ArenaView
    less = changed b' n.0 Leased

    other : (j : ℕ) (m : CellNo) → x + 1 ≤ j → slice_get ns j ≡ Some m → m.0 ≢ n.0
    other j m le s e = let same : j ≡ x = once j x n (s ∙ ap (λ (z : ℕ). Some (record { 0 = z })) e) at in omega (arith, le, same)

    left_by : (m : ℕ) → (m ≡ n.0) ⊎ (m ≢ n.0) → IsInBag less m → (k : ℕ) × (x + 1 ≤ k) × (slice_get ns k ≡ Some (record { 0 = m }))
    left_by m (inl e) held = absurd (held (subst IsLeased (sym (ap (state_at less) e ∙ stays b'.states n.0 Leased)) tt))
    left_by m (inr apart) held =
        let was = h.left.only m (not_leased (state_at b' m) (state_at less m) held (sym (get_or-set_other b'.states n.0 m Leased Leased apart))) in
        (was.0, later was.0 was.1 was.2 (cases_eq was.0 x), was.2)
      where
        later : (k : ℕ) → x ≤ k → slice_get ns k ≡ Some (record { 0 = m }) → (k ≡ x) ⊎ (k ≢ x) → x + 1 ≤ k
        later k le s (inl e) = absurd (apart (ap (λ (z : CellNo). z.0) (same_Some (record { 0 = m }) n (sym s ∙ ap (slice_get ns) e ∙ at))))
        later k le s (inr ne) = omega (arith, le, ne)

    pub one_more_back : (a'' b'' : ArenaView) → a'' ≡ changed a' n.0 y → b'' ≡ less → IsBagOf b'' a'' → AreOnTheWay f P ns (x + 1) a b a'' b''
    one_more_back a'' b'' ea eb of =
        subst (λ (q : ArenaView × ArenaView). AreOnTheWay f P ns (x + 1) a b q.0 q.1) (λ i. (sym ea i, sym eb i))
        (record {
          way = back_too f a b a' b' (changed a' n.0 y) less h.way (one_back f a' b' n.0 y h.all h.all_bag h.of in_it is);
          of = subst (λ (q : ArenaView × ArenaView). IsBagOf q.0 q.1) (λ i. (eb i, ea i)) of;
          all = length-set a'.states n.0 y ∙ h.all;
          all_bag = length-set b'.states n.0 Leased ∙ h.all_bag;
          left = record {
            each = λ k m le s. subst P (sym (get_or-set_other b'.states n.0 m.0 Leased Leased (other k m le s))) (h.left.each k m (omega (arith, le)) s);
            only = λ m held. left_by m (cases_eq m n.0) held;
          };
        })

  -- all of them
  module _ (a b a' b' : ArenaView) (h : AreOnTheWay f P ns (length ns) a b a' b') where
    none_left : (n : ℕ) → IsInBag b' n → ⊥
    none_left n in_it = let k = h.left.only n in_it in let l = k.1 in let w = slice_get_within ns k.0 (record { 0 = n }) k.2 in omega (arith, l, w)

    pub has_none : HasNoCell b'
    has_none n = go (leased_or (state_at b' n))
      where
        go : (state_at b' n ≡ Leased) ⊎ (IsLeased (state_at b' n) → ⊥) → state_at b' n ≡ Leased
        go (inl e) = e
        go (inr in_it) = absurd (none_left n in_it)

    pub regained : Regains f a b a'
    regained = all_back f a b a' b' none_left h.way
