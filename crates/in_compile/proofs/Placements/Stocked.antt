-- Cells that change one after another, and the lists of the cells of a bag.
use Rattle.std.proofs.Common.{◌≡◌, ◌≢◌, ◌⊎◌, inl, inr, ◌≤◌, ◌<◌, ◌+◌, ℕ, List, [], ◌∷◌, ◌++◌, length, get_or, set, Some, slice_get, refl, sym, ap, subst, ◌∙◌, length-append, get_or-set_same, get_or-set_other, arith}
use Rattle.std.proofs.lemmas.Bool.{cases_eq, cases_lt}
use Rattle.std.proofs.lemmas.Bool.Decides.{nat_tests}
use Rattle.std.proofs.lemmas.List.{length-set, get_or_past, get_or-replicate}
use Rattle.std.proofs.lemmas.Option.{slice_get_within}
use Rattle.in_base.proofs.Each.{all_append, all_map}
use Rattle.in_base.proofs.Places.{kept_at, last_at, more_at}
use Rattle.in_arena.specs.Arenas.{ArenaView, changed, free_of, state_at}
use Rattle.in_arena.specs.Bags.{IsBagOf, IsInBag, LeasesTo, empty_bag}
use Rattle.in_arena.specs.Changes.{AreListedOnce, HasAllCells, OneFewerIsFree, one_if_free}
use Rattle.in_arena.specs.Classes.{IsNumberOf, all_of, class_no}
use Rattle.in_arena.specs.States.{State, Vacant, Leased, Live, IsLeased}
use Rattle.in_arena.specs.declared.content.CellClass.{CellClass}
use Rattle.in_arena.specs.declared.content.CellNo.{CellNo}
use Rattle.in_arena.proofs.Public.{empty_is_of, lease_to_takes_one, leased_or, stays, counts_change, number_inside, numbers_apart, same_class}
use Rattle.in_compile.specs.Listing.{of_class, IsListing, once_back, IsOnTheWay}
use Rattle.in_compile.specs.Stocks.{with_all, Adds, Regains}
use Rattle.in_compile.proofs.Needs.Classes.{is_class}

-- ---- classes

pub of_itself : (c : CellClass) (n : ℕ) → of_class c n c ≡ n
of_itself c n = grind (arith, nat_tests)

-- another class, without cells
abbrev Other : CellClass → CellClass → Type 0
Other c d = (d ≡ c → ⊥) × ((n : ℕ) → of_class c n d ≡ 0)

pub same_or_other : (c d : CellClass) → (d ≡ c) ⊎ ((d ≡ c → ⊥) × ((n : ℕ) → of_class c n d ≡ 0))
same_or_other c d = go (is_class d c)
  where
    go : (d ≡ c) ⊎ (d ≡ c → ⊥) → (d ≡ c) ⊎ ((d ≡ c → ⊥) × ((n : ℕ) → of_class c n d ≡ 0))
    go (inl e) = inl e
    go (inr apart) = let other : class_no c ≡ class_no d → ⊥ = λ e. apart (sym (same_class c d e)) in inr (apart, λ n. grind (arith, nat_tests, other))

-- ---- states

pub not_leased : (x y : State) → (IsLeased y → ⊥) → x ≡ y → IsLeased x → ⊥
not_leased x y h e l = h (subst IsLeased e l)

-- a cell in the bag is one of all
pub in_range : (b : ArenaView) (n : ℕ) → IsInBag b n → n < length b.states
in_range b n in_it = go (cases_lt n (length b.states))
  where
    go : (n < length b.states) ⊎ (length b.states ≤ n) → n < length b.states
    go (inl l) = l
    go (inr l) = absurd (in_it (subst IsLeased (sym (get_or_past b.states n Leased l)) tt))

-- ---- the same for some cells

pub count_all : (a : ArenaView) (ns : List CellNo) (x : State) → length (with_all a ns x).states ≡ length a.states
count_all a [] x = refl
count_all a (n ∷ ns) x = length-set (with_all a ns x).states n.0 x ∙ count_all a ns x

pub cells_all : (a : ArenaView) (ns : List CellNo) (x : State) → (with_all a ns x).cells ≡ a.cells
cells_all a [] x = refl
cells_all a (n ∷ ns) x = cells_all a ns x

pub memory_all : (a : ArenaView) (ns : List CellNo) (x : State) → (with_all a ns x).memory ≡ a.memory
memory_all a [] x = refl
memory_all a (n ∷ ns) x = memory_all a ns x

pub with_all-append : (a : ArenaView) (ms ns : List CellNo) (x : State) → with_all a (ms ++ ns) x ≡ with_all (with_all a ns x) ms x
with_all-append a [] ns x = refl
with_all-append a (m ∷ ms) ns x = ap (λ v. changed v m.0 x) (with_all-append a ms ns x)

pub all_stay : (a b : ArenaView) (ns : List CellNo) (x : State) → b ≡ with_all a ns x → HasAllCells a → HasAllCells b
all_stay a b ns x e h =
    let n = ap (λ v. length v.states) e ∙ count_all a ns x in
    let m = ap all_of (ap (λ (v : ArenaView). v.cells) e ∙ cells_all a ns x) in
    n ∙ h ∙ sym m

-- one of these cells was free before
pub was_vacant : (a : ArenaView) (ns : List CellNo) (n : ℕ) → state_at (with_all a ns Leased) n ≡ Vacant → state_at a n ≡ Vacant
was_vacant a [] n h = h
was_vacant a (m ∷ ns) n h = go (cases_eq n m.0) (was_vacant a ns n)
  where
    go : (n ≡ m.0) ⊎ (n ≢ m.0) → (state_at (with_all a ns Leased) n ≡ Vacant → state_at a n ≡ Vacant) → state_at a n ≡ Vacant
    go (inl e) rest = let f : Leased ≡ Vacant = sym (stays (with_all a ns Leased).states m.0 Leased) ∙ ap (λ k. get_or (set (with_all a ns Leased).states m.0 Leased) k Leased) (sym e) ∙ h in absurd (subst IsLeased f tt)
    go (inr apart) rest = rest (sym (get_or-set_other (with_all a ns Leased).states m.0 n Leased Leased apart) ∙ h)

-- ---- leasing

pub none_added : (f : CellClass → ℕ) (a b : ArenaView) → ((c : CellClass) → f c ≡ 0) → IsBagOf b a → Adds f a b a b
none_added f a b none of = record {
  cells = [];
  free = tt;
  arena = refl;
  bag = refl;
  left = λ c. (let e = none c in omega (arith, e));
  more = λ c. (let e = none c in omega (arith, e));
  of = of;
}

module _ (c : CellClass) (x : ℕ) (a b a' b' a'' b'' : ArenaView) (n : CellNo) where
  pub one_added : HasAllCells a' → HasAllCells b' → Adds (of_class c x) a b a' b' → LeasesTo a' c b' (Some n) a'' b'' → Adds (of_class c (x + 1)) a b a'' b''
  one_added all_a all_b h made = record {
    cells = n ∷ h.cells;
    free = (was_vacant a h.cells n.0 (sym (ap (λ v. state_at v n.0) h.arena) ∙ made.1), h.free);
    arena = made.2 ∙ ap (λ v. changed v n.0 Leased) h.arena;
    bag = made.3 ∙ ap (λ v. changed v n.0 Vacant) h.bag;
    left = λ d. left d (same_or_other c d);
    more = λ d. more d (same_or_other c d);
    of = made.4;
  }
    where
      counts : (free_of a'' c + 1 ≡ free_of a' c) × (free_of b'' c ≡ free_of b' c + 1) × ((d : CellClass) → (d ≡ c → ⊥) → (free_of a'' d ≡ free_of a' d) × (free_of b'' d ≡ free_of b' d))
      counts = lease_to_takes_one a' b' a'' b'' c n all_a all_b h.of made

      left : (d : CellClass) → (d ≡ c) ⊎ Other c d → free_of a'' d + of_class c (x + 1) d ≡ free_of a d
      left d (inl e) =
          let now = counts.0 in
          let was = h.left c in
          subst (λ (z : CellClass). free_of a'' z + of_class c (x + 1) z ≡ free_of a z) (sym e) (omega (arith, of_itself c x, of_itself c (x + 1), now, was))
      left d (inr o) =
          let now = (counts.2 d o.0).0 in
          let was = h.left d in
          let e = o.1 x in
          let f = o.1 (x + 1) in
          omega (arith, now, was, e, f)

      more : (d : CellClass) → (d ≡ c) ⊎ Other c d → free_of b'' d ≡ free_of b d + of_class c (x + 1) d
      more d (inl e) =
          let now = counts.1 in
          let was = h.more c in
          subst (λ (z : CellClass). free_of b'' z ≡ free_of b z + of_class c (x + 1) z) (sym e) (omega (arith, of_itself c x, of_itself c (x + 1), now, was))
      more d (inr o) =
          let now = (counts.2 d o.0).1 in
          let was = h.more d in
          let e = o.1 x in
          let f = o.1 (x + 1) in
          omega (arith, now, was, e, f)

-- .. and of other classes besides
pub added_too : (f g k : CellClass → ℕ) (a b a' b' a'' b'' : ArenaView) → ((c : CellClass) → k c ≡ f c + g c) → Adds f a b a' b' → Adds g a' b' a'' b'' → Adds k a b a'' b''
added_too f g k a b a' b' a'' b'' sum h j = record {
  cells = j.cells ++ h.cells;
  free = all_append (λ (n : CellNo). state_at a n.0 ≡ Vacant) j.cells h.cells
      (all_map (λ (n : CellNo). state_at a' n.0 ≡ Vacant) (λ (n : CellNo). state_at a n.0 ≡ Vacant) (λ n free. was_vacant a h.cells n.0 (sym (ap (λ v. state_at v n.0) h.arena) ∙ free)) j.cells j.free) h.free;
  arena = j.arena ∙ ap (λ v. with_all v j.cells Leased) h.arena ∙ sym (with_all-append a j.cells h.cells Leased);
  bag = j.bag ∙ ap (λ v. with_all v j.cells Vacant) h.bag ∙ sym (with_all-append b j.cells h.cells Vacant);
  left = λ c. (let e = sum c in let l = h.left c in let m = j.left c in omega (arith, e, l, m));
  more = λ c. (let e = sum c in let l = h.more c in let m = j.more c in omega (arith, e, l, m));
  of = j.of;
}

-- ---- the lists of a bag's cells

-- nothing is in empty lists, as nothing is in an empty bag
pub none_listed : (b : ArenaView) (l : CellClass → List CellNo) → HasAllCells b → ((n : ℕ) → IsInBag b n → ⊥) → ((c : CellClass) → free_of b c ≡ 0) → ((c : CellClass) → l c ≡ []) → IsListing b l
none_listed b l all none free empty = record {
  all = all;
  each = λ c k n s. absurd (nothing c k n s);
  once = λ c j k n s r. absurd (nothing c j n s);
  only = λ n in_it. absurd (none n in_it);
  count = λ c. ap length (empty c) ∙ sym (free c);
}
  where
    nothing : (c : CellClass) (k : ℕ) (n : CellNo) → slice_get (l c) k ≡ Some n → ⊥
    nothing c k n s = let e = slice_get_within (l c) k n s in let f = ap length (empty c) in omega (arith, e, f)

pub none_in_empty : (a : ArenaView) (n : ℕ) → state_at (empty_bag a) n ≡ Leased
none_in_empty a n = go (cases_lt n (all_of a.cells))
  where
    go : (n < all_of a.cells) ⊎ (all_of a.cells ≤ n) → state_at (empty_bag a) n ≡ Leased
    go (inl l) = get_or-replicate (all_of a.cells) n Leased Leased l
    go (inr l) = get_or_past (empty_bag a).states n Leased (let e = (empty_is_of a).1 in omega (arith, l, e))

pub empty_listed : (a : ArenaView) (l : CellClass → List CellNo) → ((c : CellClass) → l c ≡ []) → IsListing (empty_bag a) l
empty_listed a l empty = none_listed (empty_bag a) l (empty_is_of a).1 (λ n in_it. in_it (subst IsLeased (sym (none_in_empty a n)) tt)) (empty_is_of a).2 empty

-- one more cell, which the list doesn't name
pub one_more_once : (ns : List CellNo) (n : CellNo) → AreListedOnce ns → ((j : ℕ) (m : CellNo) → slice_get ns j ≡ Some m → n ≡ m → ⊥) → AreListedOnce (ns ++ n ∷ [])
one_more_once ns n once apart i j m s r = go (more_at ns n m i s) (more_at ns n m j r)
  where
    go : (slice_get ns i ≡ Some m) ⊎ ((i ≡ length ns) × (n ≡ m)) → (slice_get ns j ≡ Some m) ⊎ ((j ≡ length ns) × (n ≡ m)) → i ≡ j
    go (inl s) (inl r) = once i j m s r
    go (inl s) (inr r) = absurd (apart i m s r.1)
    go (inr s) (inl r) = absurd (apart j m r s.1)
    go (inr s) (inr r) = s.0 ∙ sym r.0

module _ (b : ArenaView) (l k : CellClass → List CellNo) (c : CellClass) (n : CellNo) (others : (d : CellClass) → (d ≡ c → ⊥) → k d ≡ l d) where
  -- no listed cell is this one
  abbrev IsUnlisted : Type 0
  IsUnlisted = (d : CellClass) (i : ℕ) (m : CellNo) → slice_get (l d) i ≡ Some m → m.0 ≢ n.0

  -- a number in the shorter list is in the longer one
  kept : k c ≡ l c ++ n ∷ [] → (d : CellClass) (i : ℕ) (m : CellNo) → (d ≡ c) ⊎ Other c d → slice_get (l d) i ≡ Some m → slice_get (k d) i ≡ Some m
  kept here d i m (inl e) s = ap (λ (z : CellClass). slice_get (k z) i) e ∙ ap (λ z. slice_get z i) here ∙ kept_at (l c) (n ∷ []) i m (sym (ap (λ (z : CellClass). slice_get (l z) i) e) ∙ s)
  kept here d i m (inr o) s = ap (λ z. slice_get z i) (others d o.0) ∙ s

  -- a cell is put in
  module _ (h : IsListing b l) (at : IsNumberOf b.cells c n.0) (out : state_at b n.0 ≡ Leased) (here : k c ≡ l c ++ n ∷ []) where
    abbrev new : ArenaView
    new = changed b n.0 Vacant

    is_new : state_at new n.0 ≡ Vacant
    is_new = get_or-set_same b.states n.0 Vacant Leased (number_inside b n.0 c h.all at)

    -- a cell that was listed is another one
    apart : IsUnlisted
    apart d i m s = λ e. let f : Vacant ≡ Leased = sym (h.each d i m s).1 ∙ ap (state_at b) e ∙ out in subst IsLeased (sym f) tt

    stood : (d : CellClass) (i : ℕ) (m : CellNo) → (d ≡ c) ⊎ Other c d → slice_get (k d) i ≡ Some m → (slice_get (l d) i ≡ Some m) ⊎ ((d ≡ c) × (i ≡ length (l d)) × (n ≡ m))
    stood d i m (inl e) s = go (more_at (l c) n m i (sym (ap (λ z. slice_get z i) here) ∙ sym (ap (λ (z : CellClass). slice_get (k z) i) e) ∙ s))
      where
        go : (slice_get (l c) i ≡ Some m) ⊎ ((i ≡ length (l c)) × (n ≡ m)) → (slice_get (l d) i ≡ Some m) ⊎ ((d ≡ c) × (i ≡ length (l d)) × (n ≡ m))
        go (inl r) = inl (ap (λ (z : CellClass). slice_get (l z) i) e ∙ r)
        go (inr r) = inr (e, r.0 ∙ sym (ap (λ (z : CellClass). length (l z)) e), r.1)
    stood d i m (inr o) s = inl (sym (ap (λ z. slice_get z i) (others d o.0)) ∙ s)

    each_by : (d : CellClass) (i : ℕ) (m : CellNo) → (slice_get (l d) i ≡ Some m) ⊎ ((d ≡ c) × (i ≡ length (l d)) × (n ≡ m)) → IsNumberOf b.cells d m.0 × (state_at new m.0 ≡ Vacant)
    each_by d i m (inl s) = ((h.each d i m s).0, get_or-set_other b.states n.0 m.0 Vacant Leased (apart d i m s) ∙ (h.each d i m s).1)
    each_by d i m (inr r) = subst (λ (q : CellNo × CellClass). IsNumberOf b.cells q.1 q.0.0 × (state_at new q.0.0 ≡ Vacant)) (λ j. (r.2 j, sym r.0 j)) (at, is_new)

    once_by : (d : CellClass) (i j : ℕ) (m : CellNo) → (slice_get (l d) i ≡ Some m) ⊎ ((d ≡ c) × (i ≡ length (l d)) × (n ≡ m)) → (slice_get (l d) j ≡ Some m) ⊎ ((d ≡ c) × (j ≡ length (l d)) × (n ≡ m)) → i ≡ j
    once_by d i j m (inl s) (inl r) = h.once d i j m s r
    once_by d i j m (inl s) (inr r) = absurd (apart d i m s (ap (λ (z : CellNo). z.0) (sym r.2)))
    once_by d i j m (inr s) (inl r) = absurd (apart d j m r (ap (λ (z : CellNo). z.0) (sym s.2)))
    once_by d i j m (inr s) (inr r) = s.1 ∙ sym r.1

    only_by : (m : ℕ) → (m ≡ n.0) ⊎ (m ≢ n.0) → IsInBag new m → (d : CellClass) × (i : ℕ) × (slice_get (k d) i ≡ Some (record { 0 = m }))
    only_by m (inl e) in_it = (c, length (l c), ap (λ z. slice_get z (length (l c))) here ∙ last_at (l c) n ∙ ap (λ (z : ℕ). Some (record { 0 = z })) (sym e))
    only_by m (inr other) in_it =
        let was = h.only m (not_leased (state_at b m) (state_at new m) in_it (sym (get_or-set_other b.states n.0 m Vacant Leased other))) in
        (was.0, was.1, kept here was.0 was.1 (record { 0 = m }) (same_or_other c was.0) was.2)

    counts : (free_of new c + one_if_free (state_at b n.0) ≡ free_of b c + 1) × ((d : CellClass) → (d ≡ c → ⊥) → free_of new d ≡ free_of b d)
    counts = counts_change b n.0 c Vacant h.all at

    count_by : (d : CellClass) → (d ≡ c) ⊎ Other c d → length (k d) ≡ free_of new d
    count_by d (inl e) =
        let long = ap length here ∙ length-append (l c) (n ∷ []) in
        let was = h.count c in
        let now = counts.0 in
        let zero : one_if_free (state_at b n.0) ≡ 0 = ap one_if_free out in
        subst (λ (z : CellClass). length (k z) ≡ free_of new z) (sym e) (omega (arith, long, was, now, zero))
    count_by d (inr o) = ap length (others d o.0) ∙ h.count d ∙ sym (counts.1 d o.0)

    pub one_listed : IsListing new k
    one_listed = record {
      all = length-set b.states n.0 Vacant ∙ h.all;
      each = λ d i m s. each_by d i m (stood d i m (same_or_other c d) s);
      once = λ d i j m s r. once_by d i j m (stood d i m (same_or_other c d) s) (stood d j m (same_or_other c d) r);
      only = λ m in_it. only_by m (cases_eq m n.0) in_it;
      count = λ d. count_by d (same_or_other c d);
    }

  -- a cell is taken out
  module _ (h : IsListing b k) (here : k c ≡ l c ++ n ∷ []) where
    last : slice_get (k c) (length (l c)) ≡ Some n
    last = ap (λ z. slice_get z (length (l c))) here ∙ last_at (l c) n

    pub taken_at : IsNumberOf b.cells c n.0 × (state_at b n.0 ≡ Vacant)
    taken_at = h.each c (length (l c)) n last

    pub taken_in : IsInBag b n.0
    taken_in = λ leased. subst IsLeased taken_at.1 leased

    abbrev less : ArenaView
    less = changed b n.0 Leased

    is_out : state_at less n.0 ≡ Leased
    is_out = stays b.states n.0 Leased

    differs : IsUnlisted
    differs d i m s = λ e.
        let stood = kept here d i m (same_or_other c d) s in
        let number = (h.each d i m stood).0 in
        let class : d ≡ c = numbers_apart b.cells n.0 d c (subst (IsNumberOf b.cells d) e number) taken_at.0 in
        let at : slice_get (k c) i ≡ Some n = sym (ap (λ (z : CellClass). slice_get (k z) i) class) ∙ stood ∙ ap (λ (z : ℕ). Some (record { 0 = z })) e in
        let same : i ≡ length (l c) = h.once c i (length (l c)) n at last in
        let inside = slice_get_within (l d) i m s in
        let long = ap (λ (z : CellClass). length (l z)) class in
        omega (arith, same, inside, long)

    left : (d : CellClass) (i : ℕ) (m : ℕ) → (d ≡ c) ⊎ Other c d → m ≢ n.0 → slice_get (k d) i ≡ Some (record { 0 = m }) → slice_get (l d) i ≡ Some (record { 0 = m })
    left d i m (inl e) other s = go (more_at (l c) n (record { 0 = m }) i (sym (ap (λ z. slice_get z i) here) ∙ sym (ap (λ (z : CellClass). slice_get (k z) i) e) ∙ s))
      where
        go : (slice_get (l c) i ≡ Some (record { 0 = m })) ⊎ ((i ≡ length (l c)) × (n ≡ record { 0 = m })) → slice_get (l d) i ≡ Some (record { 0 = m })
        go (inl r) = ap (λ (z : CellClass). slice_get (l z) i) e ∙ r
        go (inr r) = absurd (other (ap (λ (z : CellNo). z.0) (sym r.1)))
    left d i m (inr o) other s = sym (ap (λ z. slice_get z i) (others d o.0)) ∙ s

    only_left : (m : ℕ) → (m ≡ n.0) ⊎ (m ≢ n.0) → IsInBag less m → (d : CellClass) × (i : ℕ) × (slice_get (l d) i ≡ Some (record { 0 = m }))
    only_left m (inl e) in_it = absurd (in_it (subst IsLeased (sym (ap (state_at less) e ∙ is_out)) tt))
    only_left m (inr other) in_it =
        let was = h.only m (not_leased (state_at b m) (state_at less m) in_it (sym (get_or-set_other b.states n.0 m Leased Leased other))) in
        (was.0, was.1, left was.0 was.1 m (same_or_other c was.0) other was.2)

    pub fewer : OneFewerIsFree c b less
    fewer =
        let all = counts_change b n.0 c Leased h.all taken_at.0 in
        let now = all.0 in
        let one : one_if_free (state_at b n.0) ≡ 1 = ap one_if_free taken_at.1 in
        (omega (arith, now, one), all.1)

    count_left : (d : CellClass) → (d ≡ c) ⊎ Other c d → length (l d) ≡ free_of less d
    count_left d (inl e) =
        let long = ap length here ∙ length-append (l c) (n ∷ []) in
        let was = h.count c in
        let now = fewer.0 in
        subst (λ (z : CellClass). length (l z) ≡ free_of less z) (sym e) (omega (arith, long, was, now))
    count_left d (inr o) = sym (ap length (others d o.0)) ∙ h.count d ∙ sym (fewer.1 d o.0)

    pub rest_listed : IsListing less l
    rest_listed = record {
      all = length-set b.states n.0 Leased ∙ h.all;
      each = λ d i m s.
          let was = h.each d i m (kept here d i m (same_or_other c d) s) in
          (was.0, get_or-set_other b.states n.0 m.0 Leased Leased (differs d i m s) ∙ was.1);
      once = λ d i j m s r. h.once d i j m (kept here d i m (same_or_other c d) s) (kept here d j m (same_or_other c d) r);
      only = λ m in_it. only_left m (cases_eq m n.0) in_it;
      count = λ d. count_left d (same_or_other c d);
    }

-- ---- cells that go back

module _ (f : State → State) where
  once_in : (y x : State) → (IsLeased y → ⊥) → once_back f y x ≡ f y
  once_in Vacant x h = refl
  once_in Leased x h = absurd (h tt)
  once_in (Live w es) x h = refl

  pub none_back : (a b : ArenaView) → IsOnTheWay f a b a b
  none_back a b = record { arena = (refl, refl, refl); bag = (refl, refl); states = λ n. refl }

  pub back_too : (a b a' b' a'' b'' : ArenaView) → IsOnTheWay f a b a' b' → IsOnTheWay f a' b' a'' b'' → IsOnTheWay f a b a'' b''
  back_too a b a' b' a'' b'' h j = record {
    arena = (j.arena.0 ∙ h.arena.0, j.arena.1 ∙ h.arena.1, j.arena.2 ∙ h.arena.2);
    bag = (j.bag.0 ∙ h.bag.0, j.bag.1 ∙ h.bag.1);
    states = λ n. j.states n ∙ h.states n;
  }

  -- a cell is back
  module _ (a b : ArenaView) (n : ℕ) (x : State) (all : HasAllCells a) (all_b : HasAllCells b) (of : IsBagOf b a) (in_it : IsInBag b n) (is : x ≡ f (state_at b n)) where
    inside : n < length a.states
    inside =
        let l = in_range b n in_it in
        let same = ap all_of of.cells in
        omega (arith, l, all, all_b, same)

    states_by : (m : ℕ) → (m ≡ n) ⊎ (m ≢ n) → once_back f (state_at (changed b n Leased) m) (state_at (changed a n x) m) ≡ once_back f (state_at b m) (state_at a m)
    states_by m (inl e) =
        subst (λ (k : ℕ). once_back f (state_at (changed b n Leased) k) (state_at (changed a n x) k) ≡ once_back f (state_at b k) (state_at a k)) (sym e)
        (ap (λ (y : State). once_back f y (state_at (changed a n x) n)) (stays b.states n Leased) ∙ get_or-set_same a.states n x Leased inside ∙ is ∙ sym (once_in (state_at b n) (state_at a n) in_it))
    states_by m (inr other) =
        ap (λ (y : State). once_back f y (state_at (changed a n x) m)) (get_or-set_other b.states n m Leased Leased other)
        ∙ ap (once_back f (state_at b m)) (get_or-set_other a.states n m x Leased other)

    pub one_back : IsOnTheWay f a b (changed a n x) (changed b n Leased)
    one_back = record { arena = (refl, refl, length-set a.states n x); bag = (refl, refl); states = λ m. states_by m (cases_eq m n) }

  -- all of them are
  pub all_back : (a b a' b' : ArenaView) → ((n : ℕ) → IsInBag b' n → ⊥) → IsOnTheWay f a b a' b' → Regains f a b a'
  all_back a b a' b' empty h = record {
    memory = h.arena.0;
    cells = h.arena.1;
    count = h.arena.2;
    back = λ n in_it. is n ∙ once_in (state_at b n) (state_at a n) in_it;
    others = λ n out. is n ∙ ap (λ (y : State). once_back f y (state_at a n)) out;
  }
    where
      out_by : (y x : State) → (y ≡ Leased) ⊎ (IsLeased y → ⊥) → ((IsLeased y → ⊥) → ⊥) → x ≡ once_back f y x
      out_by y x (inl e) h = sym (ap (λ (z : State). once_back f z x) e)
      out_by y x (inr in_it) h = absurd (h in_it)

      is : (n : ℕ) → state_at a' n ≡ once_back f (state_at b n) (state_at a n)
      is n = out_by (state_at b' n) (state_at a' n) (leased_or (state_at b' n)) (empty n) ∙ h.states n

-- no cell is in a bag whose lists are empty
pub none_in : (b : ArenaView) (l : CellClass → List CellNo) → IsListing b l → ((c : CellClass) → l c ≡ []) → (n : ℕ) → IsInBag b n → ⊥
none_in b l h empty n in_it =
    let at = h.only n in_it in
    let e = slice_get_within (l at.0) at.1 (record { 0 = n }) at.2 in
    let f = ap length (empty at.0) in
    omega (arith, e, f)
