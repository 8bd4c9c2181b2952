-- Cells that go back to an arena, one by one and by their number.
use Rattle.std.proofs.Common.{◌≡◌, ◌≢◌, ◌⊎◌, inl, inr, ◌<◌, ◌+◌, ℕ, zero, suc, cond, List, [], ◌∷◌, length, take, drop, get_or, count_by, Some, slice_get, refl, sym, ap, subst, ◌∙◌, get_or-set_same, get_or-set_other, length-drop, arith}
use Rattle.std.proofs.lemmas.Bool.{cases_eq}
use Rattle.std.proofs.lemmas.List.{get_or-drop}
use Rattle.std.proofs.lemmas.List.Sums.{sum_by-cons}
use Rattle.in_base.proofs.Each.{all_at}
use Rattle.in_arena.specs.Arenas.{ArenaView, free_of, state_at}
use Rattle.in_arena.specs.Bags.{IsBagOf, IsInBag, AreOfOne, empty_bag}
use Rattle.in_arena.specs.Changes.{HasAllCells, one_if_free}
use Rattle.in_arena.specs.Classes.{all_of, amount, first_of}
use Rattle.in_arena.specs.States.{State, Vacant, Leased, Live, IsLeased, IsLive, is_vacant}
use Rattle.in_arena.specs.declared.content.CellClass.{CellClass}
use Rattle.in_arena.specs.declared.content.CellNo.{CellNo}
use Rattle.in_arena.proofs.Public.{vacant_inside, leased_or, empty_is_of, stays}
use Rattle.in_compile.specs.declared.cells.Need.{Need}
use Rattle.in_compile.specs.Placing.{PlacedParts, AreCellsOf, TakesCells}
use Rattle.in_compile.specs.Stocks.{StockParts, Adds, Regains, IsStockOf, with_all}
use Rattle.in_compile.proofs.Placements.Stocked.{not_leased, count_all, cells_all, memory_all, none_in_empty}

-- ---- among some cells

-- a cell is one of them, or is as it was
pub one_or_same : (a : ArenaView) (ns : List CellNo) (x : State) (n : ℕ) → ((k : ℕ) × (slice_get ns k ≡ Some (record { 0 = n }))) ⊎ (state_at (with_all a ns x) n ≡ state_at a n)
one_or_same a [] x n = inr refl
one_or_same a (m ∷ ns) x n = go (cases_eq n m.0) (one_or_same a ns x n)
  where
    go : (n ≡ m.0) ⊎ (n ≢ m.0) → ((k : ℕ) × (slice_get ns k ≡ Some (record { 0 = n }))) ⊎ (state_at (with_all a ns x) n ≡ state_at a n)
        → ((k : ℕ) × (slice_get (m ∷ ns) k ≡ Some (record { 0 = n }))) ⊎ (state_at (with_all a (m ∷ ns) x) n ≡ state_at a n)
    go (inl e) rest = inl (0, ap (λ (z : ℕ). Some (record { 0 = z })) (sym e))
    go (inr other) (inl at) = inl (suc at.0, at.1)
    go (inr other) (inr same) = inr (get_or-set_other (with_all a ns x).states m.0 n x Leased other ∙ same)

-- each of them has this state
pub one_of_all : (a : ArenaView) (ns : List CellNo) (x : State) (n : CellNo) (k : ℕ) → n.0 < length a.states → slice_get ns k ≡ Some n → state_at (with_all a ns x) n.0 ≡ x
one_of_all a [] x n k inside at = cc
one_of_all a (m ∷ ns) x n zero inside at =
    let e : m ≡ n = (let f : Some m ≡ Some n = at in cc) in
    ap (λ (z : CellNo). state_at (with_all a (m ∷ ns) x) z.0) (sym e) ∙ get_or-set_same (with_all a ns x).states m.0 x Leased (subst (λ z. m.0 < z) (sym (count_all a ns x)) (subst (λ (z : CellNo). z.0 < length a.states) (sym e) inside))
one_of_all a (m ∷ ns) x n (suc k) inside at = go (cases_eq n.0 m.0) (one_of_all a ns x n k inside at)
  where
    go : (n.0 ≡ m.0) ⊎ (n.0 ≢ m.0) → state_at (with_all a ns x) n.0 ≡ x → state_at (with_all a (m ∷ ns) x) n.0 ≡ x
    go (inl e) rest =
        ap (state_at (with_all a (m ∷ ns) x)) e ∙ get_or-set_same (with_all a ns x).states m.0 x Leased (subst (λ z. m.0 < z) (sym (count_all a ns x)) (subst (λ z. z < length a.states) e inside))
    go (inr other) rest = get_or-set_other (with_all a ns x).states m.0 n.0 x Leased other ∙ rest

-- ---- leased cells that go back

pub same_states : (xs ys : List State) → length xs ≡ length ys → ((n : ℕ) → get_or xs n Leased ≡ get_or ys n Leased) → xs ≡ ys
same_states [] [] e h = refl
same_states [] (y ∷ ys) e h = cc
same_states (x ∷ xs) [] e h = cc
same_states (x ∷ xs) (y ∷ ys) e h = let f = h 0 in let g = same_states xs ys (let k : suc (length xs) ≡ suc (length ys) = e in omega (arith, k)) (λ n. h (suc n)) in cc

module _ (count : CellClass → ℕ) (a a' b' a'' : ArenaView) (all : HasAllCells a) (adds : Adds count a (empty_bag a) a' b') (back : Regains (λ _. Vacant) a' b' a'') where
  was_added : (n k : ℕ) → slice_get adds.cells k ≡ Some (record { 0 = n }) → state_at a'' n ≡ state_at a n
  was_added n k at =
      let free : state_at a n ≡ Vacant = all_at (λ (m : CellNo). state_at a m.0 ≡ Vacant) adds.cells k (record { 0 = n }) adds.free at in
      let inside : n < length (empty_bag a).states = (let l = vacant_inside a n free in let e = (empty_is_of a).1 in omega (arith, l, e, all)) in
      let held : state_at b' n ≡ Vacant = ap (λ v. state_at v n) adds.bag ∙ one_of_all (empty_bag a) adds.cells Vacant (record { 0 = n }) k inside at in
      back.back n (λ leased. subst IsLeased held leased) ∙ sym free

  as_before : (n : ℕ) → ((k : ℕ) × (slice_get adds.cells k ≡ Some (record { 0 = n }))) ⊎ (state_at (with_all a adds.cells Leased) n ≡ state_at a n) → ((k : ℕ) × (slice_get adds.cells k ≡ Some (record { 0 = n }))) ⊎ (state_at (with_all (empty_bag a) adds.cells Vacant) n ≡ state_at (empty_bag a) n)
      → state_at a'' n ≡ state_at a n
  as_before n (inl at) other = was_added n at.0 at.1
  as_before n (inr same) (inl at) = was_added n at.0 at.1
  as_before n (inr same) (inr none) =
      back.others n (ap (λ v. state_at v n) adds.bag ∙ none ∙ none_in_empty a n) ∙ ap (λ v. state_at v n) adds.arena ∙ same

  pub all_back : a'' ≡ a
  all_back = λ i. record {
    memory = (back.memory ∙ ap (λ v. v.memory) adds.arena ∙ memory_all a adds.cells Leased) i;
    cells = (back.cells ∙ ap (λ v. v.cells) adds.arena ∙ cells_all a adds.cells Leased) i;
    states = same_states a''.states a.states (back.count ∙ ap (λ v. length v.states) adds.arena ∙ count_all a adds.cells Leased)
        (λ n. as_before n (one_or_same a adds.cells Leased n) (one_or_same (empty_bag a) adds.cells Vacant n)) i;
  }

-- ---- placed cells

-- a placed cell was the stock's
placed_was : (need : Need) (s s' : StockParts) (p : PlacedParts) → TakesCells need p.cells s s' → AreCellsOf p.bag p.cells → (n : ℕ) → IsInBag p.bag n → state_at s.bag n ≡ Vacant
placed_was need s s' p takes cells n in_it = let at = cells.only n in_it in all_at (λ (m : CellNo). state_at s.bag m.0 ≡ Vacant) p.cells at.0 (record { 0 = n }) takes.were at.1

-- a cell that isn't placed is the stock's if it was before
pub as_left : (need : Need) (s s' : StockParts) (p : PlacedParts) → TakesCells need p.cells s s' → AreCellsOf p.bag p.cells → (n : ℕ) → state_at p.bag n ≡ Leased → state_at s'.bag n ≡ state_at s.bag n
as_left need s s' p takes cells n out = go (one_or_same s.bag p.cells Leased n)
  where
    go : ((k : ℕ) × (slice_get p.cells k ≡ Some (record { 0 = n }))) ⊎ (state_at (with_all s.bag p.cells Leased) n ≡ state_at s.bag n) → state_at s'.bag n ≡ state_at s.bag n
    go (inl at) = absurd (cells.each at.0 (record { 0 = n }) at.1 (subst IsLeased (sym out) tt))
    go (inr same) = ap (λ v. state_at v n) takes.bag ∙ same

module _ (need : Need) (s s' : StockParts) (p : PlacedParts) (a a' a'' : ArenaView) (takes : TakesCells need p.cells s s') (cells : AreCellsOf p.bag p.cells) (first : Regains (λ _. Vacant) a s'.bag a') (second : Regains (λ _. Vacant) a' p.bag a'') where
  back_by : (n : ℕ) → (state_at p.bag n ≡ Leased) ⊎ IsInBag p.bag n → IsInBag s.bag n → state_at a'' n ≡ Vacant
  back_by n (inl out) in_it = second.others n out ∙ first.back n (not_leased (state_at s'.bag n) (state_at s.bag n) in_it (as_left need s s' p takes cells n out))
  back_by n (inr placed) in_it = second.back n placed

  others_by : (n : ℕ) → (state_at p.bag n ≡ Leased) ⊎ IsInBag p.bag n → state_at s.bag n ≡ Leased → state_at a'' n ≡ state_at a n
  others_by n (inl out) leased = second.others n out ∙ first.others n (as_left need s s' p takes cells n out ∙ leased)
  others_by n (inr placed) leased = absurd (let e : Vacant ≡ Leased = sym (placed_was need s s' p takes cells n placed) ∙ leased in subst IsLeased (sym e) tt)

  pub both_back : Regains (λ _. Vacant) a s.bag a''
  both_back = record {
    memory = second.memory ∙ first.memory;
    cells = second.cells ∙ first.cells;
    count = second.count ∙ first.count;
    back = λ n in_it. back_by n (leased_or (state_at p.bag n)) in_it;
    others = λ n leased. others_by n (leased_or (state_at p.bag n)) leased;
  }

-- a cell that is left in a bag is in it
still_in : (b : ArenaView) (ns : List CellNo) (n : ℕ) → IsInBag (with_all b ns Leased) n → IsInBag b n
still_in b [] n h = h
still_in b (m ∷ ns) n h = go (cases_eq n m.0) (still_in b ns n)
  where
    go : (n ≡ m.0) ⊎ (n ≢ m.0) → (IsInBag (with_all b ns Leased) n → IsInBag b n) → IsInBag b n
    go (inl e) rest = absurd (h (subst IsLeased (sym (ap (state_at (with_all b (m ∷ ns) Leased)) e ∙ stays (with_all b ns Leased).states m.0 Leased)) tt))
    go (inr other) rest = rest (not_leased (state_at (with_all b ns Leased) n) (state_at (with_all b (m ∷ ns) Leased) n) h (sym (get_or-set_other (with_all b ns Leased).states m.0 n Leased Leased other)))

module _ (need : Need) (s s' : StockParts) (p : PlacedParts) (a : ArenaView) (of : IsStockOf s a) (takes : TakesCells need p.cells s s') (cells : AreCellsOf p.bag p.cells) (one : AreOfOne s.bag p.bag) where
  is_left : (n : ℕ) → IsInBag s'.bag n → IsInBag s.bag n
  is_left n in_it = still_in s.bag p.cells n (subst (λ v. IsInBag v n) takes.bag in_it)

  -- a placed cell isn't the stock's any more
  gone : (n : ℕ) → IsInBag s'.bag n → IsInBag p.bag n → ⊥
  gone n in_stock placed =
      let at = cells.only n placed in
      let inside = vacant_inside s.bag n (placed_was need s s' p takes cells n placed) in
      in_stock (subst IsLeased (sym (ap (λ v. state_at v n) takes.bag ∙ one_of_all s.bag p.cells Leased (record { 0 = n }) at.0 inside at.1)) tt)

  pub shared_out : IsStockOf s' a × IsBagOf p.bag a × ((n : ℕ) → IsInBag s'.bag n → IsInBag p.bag n → ⊥)
  shared_out = (
    record {
      memory = ap (λ v. v.memory) takes.bag ∙ memory_all s.bag p.cells Leased ∙ of.memory;
      cells = ap (λ v. v.cells) takes.bag ∙ cells_all s.bag p.cells Leased ∙ of.cells;
      leased = λ n in_it. of.leased n (is_left n in_it);
    },
    record {
      memory = one.0 ∙ of.memory;
      cells = one.1 ∙ of.cells;
      leased = λ n in_it. of.leased n (λ leased. subst IsLeased (placed_was need s s' p takes cells n in_it) leased);
    },
    gone,
  )

pub other_stays : (f : State → State) (a b d a' : ArenaView) → Regains f a b a' → IsBagOf d a → ((n : ℕ) → IsInBag d n → IsInBag b n → ⊥) → IsBagOf d a'
other_stays f a b d a' back of apart = record {
  memory = of.memory ∙ sym back.memory;
  cells = of.cells ∙ sym back.cells;
  leased = λ n in_it. go n in_it (leased_or (state_at b n));
}
  where
    go : (n : ℕ) → IsInBag d n → (state_at b n ≡ Leased) ⊎ IsInBag b n → state_at a' n ≡ Leased
    go n in_it (inl out) = back.others n out ∙ of.leased n in_it
    go n in_it (inr both) = absurd (apart n in_it both)

-- ---- counted

-- a cell that is free in one of two, or in neither

taken : (n : ℕ) (xs ys zs : List State) → length xs ≡ length ys → length zs ≡ length ys → ((i : ℕ) → one_if_free (get_or zs i Leased) ≡ one_if_free (get_or xs i Leased) + one_if_free (get_or ys i Leased))
    → count_by is_vacant (take n zs) ≡ count_by is_vacant (take n xs) + count_by is_vacant (take n ys)
taken zero xs ys zs e f h = refl
taken (suc n) [] [] [] e f h = refl
taken (suc n) [] [] (z ∷ zs) e f h = cc
taken (suc n) [] (y ∷ ys) zs e f h = cc
taken (suc n) (x ∷ xs) [] zs e f h = cc
taken (suc n) (x ∷ xs) (y ∷ ys) [] e f h = cc
taken (suc n) (x ∷ xs) (y ∷ ys) (z ∷ zs) e f h =
    let rest = taken n xs ys zs (let k : suc (length xs) ≡ suc (length ys) = e in omega (arith, k)) (let k : suc (length zs) ≡ suc (length ys) = f in omega (arith, k)) (λ i. h (suc i)) in
    let one = h 0 in
    let sx : List State = take n xs in
    let sy : List State = take n ys in
    let sz : List State = take n zs in
    omega (arith, rest, one, sum_by-cons (λ v. cond (is_vacant v) 1 0) x sx, sum_by-cons (λ v. cond (is_vacant v) 1 0) y sy, sum_by-cons (λ v. cond (is_vacant v) 1 0) z sz)

module _ (a b a' : ArenaView) (c : CellClass) (all : HasAllCells a) (all_b : HasAllCells b) (of : IsBagOf b a) (plain : (n : ℕ) → IsLive (state_at b n) → ⊥) (back : Regains (λ _. Vacant) a b a') where
  one_by : (n : ℕ) (y : State) → state_at b n ≡ y → one_if_free (state_at a' n) ≡ one_if_free (state_at a n) + one_if_free (state_at b n)
  one_by n Leased e = let f = ap one_if_free (back.others n e) in let g : one_if_free (state_at b n) ≡ 0 = ap one_if_free e in omega (arith, f, g)
  one_by n Vacant e =
      let in_it : IsInBag b n = λ leased. subst IsLeased e leased in
      let f : one_if_free (state_at a' n) ≡ 1 = ap one_if_free (back.back n in_it) in
      let g : one_if_free (state_at b n) ≡ 1 = ap one_if_free e in
      let k : one_if_free (state_at a n) ≡ 0 = ap one_if_free (of.leased n in_it) in
      omega (arith, f, g, k)
  one_by n (Live w es) e = absurd (plain n (subst IsLive (sym e) tt))

  pub counted_back : free_of a' c ≡ free_of a c + free_of b c
  counted_back =
      let start = first_of a.cells c in
      let same : b.cells ≡ a.cells = of.cells in
      let long : length a.states ≡ length b.states = (let k = ap all_of same in omega (arith, all, all_b, k)) in
      let dropped = taken (amount a.cells c) (drop start a.states) (drop start b.states) (drop start a'.states)
      (let p = length-drop start a.states in let q = length-drop start b.states in omega (arith, p, q, long))
      (let p = length-drop start a'.states in let q = length-drop start b.states in let r = back.count in omega (arith, p, q, r, long))
      (λ i.
      let n = start + i in
      ap one_if_free (get_or-drop start a'.states i Leased) ∙ one_by n (state_at b n) refl
      ∙ ap (λ (q : State × State). one_if_free q.0 + one_if_free q.1) (λ j. (sym (get_or-drop start a.states i Leased) j, sym (get_or-drop start b.states i Leased) j))) in
      ap (λ m. count_by is_vacant (take (amount m c) (drop (first_of m c) a'.states))) back.cells ∙ dropped ∙ ap (λ m. free_of a c + count_by is_vacant (take (amount m c) (drop (first_of m c) b.states))) (sym same)
