-- The cells of one class, and the list of those that are free, after a change of one cell.
use Rattle.std.proofs.Common.{◌≡◌, ◌≢◌, ℕ, zero, suc, ◌+◌, ◌-◌, ◌<◌, ◌≤◌, List, [], ◌∷◌, map, take, length, set, get_or, replicate, cond, count_by, Some, None, refl, sym, ap, ◌∙◌, subst, inl, inr, arith, length-set, get_or-set_same, get_or-set_other}
use Rattle.std.proofs.lemmas.Bool.{cases_eq, cases_lt}
use Rattle.std.proofs.lemmas.List.{length-replicate, length-take-le, get_or-replicate, get_or_past, map-set, set-get_or}
use Rattle.std.proofs.Math.ListN.{get_or-map}
use Rattle.std.proofs.lemmas.List.Sums.{sum_by-set, sum_by-cons}
use Rattle.std.specs.List.{AllByRecursion}
use Rattle.in_memory.proofs.Public.{filled_inside}
use Rattle.in_arena.specs.declared.content.End.{End}
use Rattle.in_arena.specs.declared.free_list.FreeList.{FreeList}
use Rattle.in_arena.specs.Words.{Content, CellWords}
use Rattle.in_arena.specs.States.{State, Vacant, Leased, Live, IsLive, IsLeased, IsBegun, is_vacant, places, with_end}
use Rattle.in_arena.specs.FreeLists.{with_ends, one_if_zero, state_in, state_of, states, vacancy, vacancies, IsVacantTo, IsFreeList, AreDifferentNumbers, IsCell, AreNew, ListsFree}

pub set_twice : {X : Type 0} (xs : List X) (i : ℕ) (x y : X) → set (set xs i x) i y ≡ set xs i y
set_twice [] i x y = refl
set_twice (z ∷ xs) zero x y = refl
set_twice (z ∷ xs) (suc i) x y = ap (λ l. z ∷ l) (set_twice xs i x y)

-- ---- the number of free cells

one_if : (n w : ℕ) (es : List End) → one_if_zero n ≡ cond (is_vacant (with_ends n w es)) 1 0
one_if zero w es = refl
one_if (suc n) w es = refl

vacancy_is : (s : CellWords) → vacancy s ≡ cond (is_vacant (state_of s)) 1 0
vacancy_is None = refl
vacancy_is (Some None) = refl
vacancy_is (Some (Some c)) = one_if c.count c.word c.ends

pub vacancies_are : (xs : List (CellWords)) → vacancies xs ≡ count_by is_vacant (map state_of xs)
vacancies_are [] = refl
vacancies_are (x ∷ xs) = omega (arith, sum_by-cons vacancy x xs, sum_by-cons (λ s. cond (is_vacant s) 1 0) (state_of x) (map state_of xs), vacancy_is x, vacancies_are xs)

not_leased : (n w : ℕ) (es : List End) → IsLeased (with_ends n w es) → ⊥
not_leased zero w es h = h
not_leased (suc n) w es h = h

pub leased_none : (s : CellWords) → IsLeased (state_of s) → s ≡ None
leased_none None h = refl
leased_none (Some None) h = absurd h
leased_none (Some (Some c)) h = absurd (not_leased c.count c.word c.ends h)

live_count : (n w : ℕ) (es : List End) → IsLive (with_ends n w es) → one_if_zero n ≡ 0
live_count zero w es h = absurd h
live_count (suc n) w es h = refl

-- ---- one cell

vacant_cell : (s : CellWords) (k : ℕ) → IsVacantTo s k → (c : Content) × (s ≡ Some (Some c)) × (c.count ≡ 0) × (c.word ≡ k)
vacant_cell None k h = absurd h
vacant_cell (Some None) k h = absurd h
vacant_cell (Some (Some c)) k h = (c, refl, h.0, h.1)

pub vacant_state : (c : Content) → c.count ≡ 0 → state_in c ≡ Vacant
vacant_state c e = ap (λ n. with_ends n c.word c.ends) e

vacancy_one : (c : Content) → c.count ≡ 0 → vacancy (Some (Some c)) ≡ 1
vacancy_one c e = ap one_if_zero e

cell_set : (most : ℕ) (xs : List CellWords) (i : ℕ) (c : CellWords) → i < length xs → IsCell most c → ((j : ℕ) → IsCell most (get_or xs j None)) → (j : ℕ) → IsCell most (get_or (set xs i c) j None)
cell_set most xs i c lt h all j = elim (cases_eq j i) [
  | inl e ↦ subst (λ k. IsCell most (get_or (set xs i c) k None)) (sym e) (subst (IsCell most) (sym (get_or-set_same xs i c None lt)) h)
  | inr apart ↦ subst (IsCell most) (sym (get_or-set_other xs i j c None apart)) (all j)
]

word_in : CellWords → ℕ
word_in None = 0
word_in (Some None) = 0
word_in (Some (Some c)) = c.word

pub same_word : (c d : Content) → Some (Some c) ≡ Some (Some d) → c.word ≡ d.word
unfolding word_in
same_word c d e = ap word_in e

count_in : CellWords → ℕ
count_in None = 0
count_in (Some None) = 0
count_in (Some (Some c)) = c.count

pub same_count : (c d : Content) → Some (Some c) ≡ Some (Some d) → c.count ≡ d.count
unfolding count_in
same_count c d e = ap count_in e

pub live_vacancy : (s : CellWords) → IsLive (state_of s) → vacancy s ≡ 0
live_vacancy None h = refl
live_vacancy (Some None) h = absurd h
live_vacancy (Some (Some c)) h = live_count c.count c.word c.ends h

vacant_one : (s : CellWords) (k : ℕ) → IsVacantTo s k → vacancy s ≡ 1
vacant_one None k h = absurd h
vacant_one (Some None) k h = absurd h
vacant_one (Some (Some c)) k h = vacancy_one c h.0

-- a cell that isn't counted as free names no next one
never_vacant : (s : CellWords) → vacancy s ≡ 0 → (k : ℕ) → IsVacantTo s k → ⊥
never_vacant s e k h = absurd (omega (arith, vacant_one s k h))

-- ---- cells that were never used

-- a cell that was used isn't one of them
new_set : (xs : List CellWords) (i fresh : ℕ) (c : CellWords) → (get_or xs i None ≡ Some None → ⊥) → AreNew xs fresh → AreNew (set xs i c) fresh
new_set xs i fresh c used h j le lt = elim (cases_eq j i) [
  | inl e ↦ absurd (used (ap (λ k. get_or xs k None) (sym e) ∙ h j le (omega (arith, lt, length-set xs i c))))
  | inr apart ↦ get_or-set_other xs i j c None apart ∙ h j le (omega (arith, lt, length-set xs i c))
]

counted_used : (s : CellWords) → vacancy s ≡ 0 → s ≡ Some None → ⊥
counted_used s none e = let one : vacancy s ≡ 1 = ap vacancy e in omega (arith, none, one)

filled_used : (s : CellWords) (c : Content) → s ≡ Some (Some c) → s ≡ Some None → ⊥
filled_used s c e new = differ c (sym e ∙ new)
  where
    differ : (c : Content) → Some (Some c) ≡ Some None → ⊥
    differ c e = cc

-- ---- the free list

list_set : (xs : List CellWords) (i : ℕ) (c : CellWords) (next : ℕ) (fs : List ℕ) → AllByRecursion (λ f. i ≢ f) fs → IsFreeList xs next fs → IsFreeList (set xs i c) next fs
list_set xs i c next [] apart h = h ∙ sym (length-set xs i c)
list_set xs i c next (f ∷ fs) apart h =
    let inside = h.1 in
    (h.0, omega (arith, length-set xs i c), (h.2.0, subst (λ s. IsVacantTo s h.2.0) (sym (get_or-set_other xs i f c None (λ e. apart.0 (sym e)))) h.2.1, list_set xs i c h.2.0 fs apart.1 h.2.2))

not_listed : (xs : List CellWords) (i : ℕ) → ((k : ℕ) → IsVacantTo (get_or xs i None) k → ⊥) → (next : ℕ) (fs : List ℕ) → IsFreeList xs next fs → AllByRecursion (λ f. i ≢ f) fs
not_listed xs i never next [] h = tt
not_listed xs i never next (f ∷ fs) h =
    ((λ e. never h.2.0 (subst (λ j. IsVacantTo (get_or xs j None) h.2.0) (sym e) h.2.1)), not_listed xs i never h.2.0 fs h.2.2)

-- the first free cell
pub record First (xs : List CellWords) (next : ℕ) (fs : List ℕ) : Type 0 where
  pub rest : List ℕ
  pub is : fs ≡ next ∷ rest
  pub inside : next < length xs
  pub cell : Content
  pub here : get_or xs next None ≡ Some (Some cell)
  pub free : cell.count ≡ 0
  pub listed : IsFreeList xs cell.word rest

first_of : (xs : List CellWords) (next : ℕ) (fs : List ℕ) → IsFreeList xs next fs → next ≢ length xs → First xs next fs
first_of xs next [] h apart = absurd (apart h)
first_of xs next (f ∷ fs) h apart =
    let v = vacant_cell (get_or xs f None) h.2.0 h.2.1 in let is = h.0 in let inside = h.1 in
    record {
      rest = fs;
      is = ap (λ x. x ∷ fs) (sym is);
      inside = omega arith;
      cell = v.0;
      here = ap (λ x. get_or xs x None) is ∙ v.1;
      free = v.2;
      listed = subst (λ k. IsFreeList xs k fs) (sym v.3) h.2.2;
    }

-- if the list ends at once, no used cell is free
none_listed : (most : ℕ) (xs : List CellWords) (l : FreeList) (h : ListsFree most xs l) → l.next ≡ length xs → length h.free ≡ 0
none_listed most xs l h e = none h.free h.listed
  where
    none : (fs : List ℕ) → IsFreeList xs l.next fs → length fs ≡ 0
    none [] z = refl
    none (f ∷ fs) z = let is = z.0 in let inside = z.1 in absurd (omega (arith, is, inside, e))

pub none_free : (most : ℕ) (xs : List CellWords) (l : FreeList) → ListsFree most xs l → l.next ≡ length xs → l.fresh ≡ length xs → count_by is_vacant (states xs) ≡ 0
none_free most xs l h e used = sym (vacancies_are xs) ∙ omega (arith, h.all, none_listed most xs l h e, used)

pub first_free : (most : ℕ) (xs : List CellWords) (l : FreeList) (h : ListsFree most xs l) → l.next ≢ length xs → First xs l.next h.free
first_free most xs l h apart = first_of xs l.next h.free h.listed apart

-- ---- a cell that isn't free becomes another one that isn't

pub put : (most : ℕ) (xs : List CellWords) (l : FreeList) (i : ℕ) (c : CellWords) → ListsFree most xs l → i < length xs → vacancy (get_or xs i None) ≡ 0 → vacancy c ≡ 0 → IsCell most c → ListsFree most (set xs i c) l
put most xs l i c h lt before after cell = record {
  few = cell_set most xs i c lt cell h.few;
  free = h.free;
  listed = list_set xs i c l.next h.free (not_listed xs i (never_vacant (get_or xs i None) before) l.next h.free h.listed) h.listed;
  once = h.once;
  unused = (omega (arith, length-set xs i c, (let few = h.unused.0 in few)), new_set xs i l.fresh c (counted_used (get_or xs i None) before) h.unused.1);
  all = omega (arith, sum_by-set vacancy xs i c None lt, before, after, h.all, length-set xs i c);
  count = omega (arith, h.count, length-set xs i c);
}

-- ---- the first free cell is another owner's

abbrev pub list_with : ℕ → ℕ → ℕ → FreeList
list_with next fresh free = record { next = next; fresh = fresh; free = free }

pub taken : (most : ℕ) (xs : List CellWords) (l : FreeList) (h : ListsFree most xs l) (p : First xs l.next h.free) → ListsFree most (set xs l.next None) (list_with p.cell.word l.fresh (l.free - 1))
taken most xs l h p =
    let i = l.next in
    let once = subst AreDifferentNumbers p.is h.once in
    let long : length h.free ≡ suc (length p.rest) = ap length p.is in
    let one : vacancy (get_or xs i None) ≡ 1 = ap vacancy p.here ∙ vacancy_one p.cell p.free in
    let same = length-set xs i None in
    record {
      few = cell_set most xs i None p.inside tt h.few;
      free = p.rest;
      listed = list_set xs i None p.cell.word p.rest once.0 p.listed;
      once = once.1;
      unused = (let few = h.unused.0 in omega (arith, same, few), new_set xs i l.fresh None (filled_used (get_or xs i None) p.cell p.here) h.unused.1);
      all = omega (arith, sum_by-set vacancy xs i None None p.inside, one, h.all, long, same);
      count = let few = h.unused.0 in omega (arith, h.count, long, few, same);
    }

-- ---- a cell that isn't free becomes the first free one

pub freed : (most : ℕ) (xs : List CellWords) (l : FreeList) (i : ℕ) (c : Content) → ListsFree most xs l → i < length xs → vacancy (get_or xs i None) ≡ 0 → c.count ≡ 0 → c.word ≡ l.next → ListsFree most (set xs i (Some (Some c))) (list_with i l.fresh (l.free + 1))
freed most xs l i c h lt before none next =
    let new = Some (Some c) in
    let apart = not_listed xs i (never_vacant (get_or xs i None) before) l.next h.free h.listed in
    let one : vacancy new ≡ 1 = vacancy_one c none in
    let here : IsVacantTo (get_or (set xs i new) i None) l.next = subst (λ s. IsVacantTo s l.next) (sym (get_or-set_same xs i new None lt)) (none, next) in
    let same = length-set xs i new in
    record {
      few = cell_set most xs i new lt (omega (arith, none)) h.few;
      free = i ∷ h.free;
      listed = (refl, omega (arith, same, lt), (l.next, here, list_set xs i new l.next h.free apart h.listed));
      once = (apart, h.once);
      unused = (let few = h.unused.0 in omega (arith, same, few), new_set xs i l.fresh new (counted_used (get_or xs i None) before) h.unused.1);
      all = omega (arith, sum_by-set vacancy xs i new None lt, before, one, h.all, same);
      count = omega (arith, h.count, same);
    }

-- ---- the first cell that was never used is listed

pub fresh_inside : (most : ℕ) (xs : List CellWords) (l : FreeList) → ListsFree most xs l → (l.fresh ≡ length xs → ⊥) → l.fresh < length xs
fresh_inside most xs l h some = let few = h.unused.0 in below l.fresh (length xs) few some
  where
    below : (i n : ℕ) → i ≤ n → (i ≡ n → ⊥) → i < n
    below i n le apart = elim (cases_lt i n) [ inl lt ↦ lt | inr ge ↦ absurd (apart (omega arith)) ]

less_new : (xs : List CellWords) (i : ℕ) (c : CellWords) → AreNew xs i → AreNew (set xs i c) (i + 1)
less_new xs i c h j le lt = get_or-set_other xs i j c None (λ e. omega (arith, e, le)) ∙ h j (omega (arith, le)) (omega (arith, lt, length-set xs i c))

pub listed_new : (most : ℕ) (xs : List CellWords) (l : FreeList) (c : Content) (h : ListsFree most xs l) → l.next ≡ length xs → (l.fresh ≡ length xs → ⊥) → c.count ≡ 0 → c.word ≡ length xs
    → ListsFree most (set xs l.fresh (Some (Some c))) (list_with l.fresh (l.fresh + 1) l.free) × (states (set xs l.fresh (Some (Some c))) ≡ states xs)
listed_new most xs l c h none some zero_ends last =
    let i = l.fresh in let new = Some (Some c) in let few = h.unused.0 in let empty = none_listed most xs l h none in let inside = fresh_inside most xs l h some in
    let was : get_or xs i None ≡ Some None = h.unused.1 i (omega arith) inside in
    let before : vacancy (get_or xs i None) ≡ 1 = ap vacancy was in
    let long = length-set xs i new in
    let here : IsVacantTo (get_or (set xs i new) i None) (length xs) = subst (λ s. IsVacantTo s (length xs)) (sym (get_or-set_same xs i new None inside)) (zero_ends, last) in (
      record {
        few = cell_set most xs i new inside (omega (arith, zero_ends)) h.few;
        free = i ∷ [];
        listed = (refl, omega (arith, long, inside), (length xs, here, sym long));
        once = (tt, tt);
        unused = (omega (arith, inside, long), less_new xs i new h.unused.1);
        all = omega (arith, sum_by-set vacancy xs i new None inside, before, vacancy_one c zero_ends, h.all, empty, long);
        count = omega (arith, h.count, empty, long);
      },
      map-set state_of xs i new ∙ ap (set (map state_of xs) i) (vacant_state c zero_ends ∙ sym (get_or-map state_of xs i None ∙ ap state_of was)) ∙ set-get_or (map state_of xs) i Leased,
    )

-- ---- bounds

vacancy_small : (s : CellWords) → vacancy s ≤ 1
vacancy_small None = omega arith
vacancy_small (Some None) = omega arith
vacancy_small (Some (Some c)) = small c.count
  where
    small : (n : ℕ) → one_if_zero n ≤ 1
    small zero = omega arith
    small (suc n) = omega arith

vacancies_few : (xs : List CellWords) → vacancies xs ≤ length xs
vacancies_few [] = omega arith
vacancies_few (x ∷ xs) = omega (arith, sum_by-cons vacancy x xs, vacancy_small x, vacancies_few xs)

pub free_small : (most : ℕ) (xs : List CellWords) (l : FreeList) → ListsFree most xs l → l.free ≤ length xs
free_small most xs l h = let few = h.unused.0 in omega (arith, h.count, h.all, few, vacancies_few xs)

-- ---- which cells were used

new_counted : (xs : List CellWords) (fresh : ℕ) → AreNew xs fresh → length xs ≤ vacancies xs + fresh
new_counted [] fresh new = omega arith
new_counted (x ∷ xs) zero new =
    let one : vacancy x ≡ 1 = ap vacancy (new 0 (omega arith) (omega arith)) in
    let rest = new_counted xs zero (λ i le lt. new (suc i) (omega arith) (omega (arith, lt))) in
    omega (arith, one, rest, sum_by-cons vacancy x xs)
new_counted (x ∷ xs) (suc k) new =
    let rest = new_counted xs k (λ i le lt. new (suc i) (omega (arith, le)) (omega (arith, lt))) in
    omega (arith, rest, sum_by-cons vacancy x xs)

-- at least as many cells are free as are listed or were never used
-- the next free cell is one of the row, or the row's end
pub next_inside : (most : ℕ) (xs : List CellWords) (l : FreeList) → ListsFree most xs l → l.next ≤ length xs
next_inside most xs l h = by h.free h.listed
  where
    by : (fs : List ℕ) → IsFreeList xs l.next fs → l.next ≤ length xs
    by [] e = omega (arith, e)
    by (f ∷ fs) at = let e = at.0 in let lt = at.1 in omega (arith, e, lt)

free_counted : (xs : List CellWords) (fresh next : ℕ) (fs : List ℕ) → IsFreeList xs next fs → AreDifferentNumbers fs → AreNew xs fresh → length fs + length xs ≤ vacancies xs + fresh
free_counted xs fresh next [] h once new = omega (arith, new_counted xs fresh new)
free_counted xs fresh next (f ∷ fs) h once new =
    let v = vacant_cell (get_or xs f None) h.2.0 h.2.1 in
    let rest = free_counted (set xs f None) fresh h.2.0 fs (list_set xs f None h.2.0 fs once.0 h.2.2) once.1 (new_set xs f fresh None (filled_used (get_or xs f None) v.0 v.1) new) in
    let inside = h.1 in
    omega (arith, rest, length-set xs f None, sum_by-set vacancy xs f None None inside, vacant_one (get_or xs f None) h.2.0 h.2.1)

-- so each cell before those that were never used was used
pub used : (most : ℕ) (xs : List CellWords) (l : FreeList) → ListsFree most xs l → (i : ℕ) → i < l.fresh → get_or xs i None ≡ Some None → ⊥
used most xs l h i lt new =
    let few = h.unused.0 in
    let inside : i < length xs = omega (arith, lt, few) in
    let apart = not_listed xs i (λ k at. subst (λ s. IsVacantTo s k) new at) l.next h.free h.listed in
    let still : AreNew (set xs i None) l.fresh = λ j le below. get_or-set_other xs i j None None (λ e. omega (arith, e, le, lt)) ∙ h.unused.1 j le (omega (arith, below, length-set xs i None)) in
    let counted = free_counted (set xs i None) l.fresh l.next h.free (list_set xs i None l.next h.free apart h.listed) h.once still in
    let one : vacancy (get_or xs i None) ≡ 1 = ap vacancy new in
    omega (arith, counted, length-set xs i None, sum_by-set vacancy xs i None None inside, one, h.all)

-- .. and has a content if it isn't on lease
pub used_cell : (s : CellWords) → (IsLeased (state_of s) → ⊥) → (s ≡ Some None → ⊥) → (c : Content) × (s ≡ Some (Some c))
used_cell None out new = absurd (out tt)
used_cell (Some None) out new = absurd (new refl)
used_cell (Some (Some c)) out new = (c, refl)

-- ---- a live cell

pub live_cell : (s : CellWords) → IsLive (state_of s) → (c : Content) × (s ≡ Some (Some c))
live_cell None h = absurd h
live_cell (Some None) h = absurd h
live_cell (Some (Some c)) h = (c, refl)

pub live_within : (xs : List CellWords) (i : ℕ) → IsLive (state_of (get_or xs i None)) → i < length xs
live_within xs i h = let c = live_cell (get_or xs i None) h in filled_inside xs i (Some c.0) c.1

pub places_live : (s : State) (p : ℕ) → p < places s → IsLive s
places_live Vacant p lt = absurd (omega arith)
places_live Leased p lt = absurd (omega arith)
places_live (Live w es) p lt = tt

-- a place of a cell is one for which it has room
pub place_within : (n w : ℕ) (es : List End) (p most : ℕ) → p < places (with_ends n w es) → n ≤ most → most ≡ length es → p < most
place_within zero w es p most lt few long = absurd (omega arith)
place_within (suc n) w es p most lt few long = omega (arith, lt, few, long, length-take-le (suc n) es (omega (arith, few, long)))

pub take_set : {X : Type 0} (n : ℕ) (xs : List X) (i : ℕ) (y : X) → take n (set xs i y) ≡ set (take n xs) i y
take_set zero xs i y = refl
take_set (suc n) [] i y = refl
take_set (suc n) (x ∷ xs) zero y = refl
take_set (suc n) (x ∷ xs) (suc i) y = ap (λ l. x ∷ l) (take_set n xs i y)

pub end_written : (w n : ℕ) (es : List End) (p : ℕ) (e : End) → with_ends n w (set es p e) ≡ with_end (with_ends n w es) p e
end_written w zero es p e = refl
end_written w (suc n) es p e = ap (Live w) (take_set (suc n) es p e)

pub live_written : (w n : ℕ) (es : List End) → 0 < n → with_ends n w es ≡ Live w (take n es)
live_written w zero es lt = absurd (omega arith)
live_written w (suc n) es lt = refl

pub places_written : (w n : ℕ) (es : List End) → IsLive (with_ends n w es) → n ≤ length es → (places (with_ends n w es) ≡ n) × (1 ≤ n)
places_written w zero es live few = absurd live
places_written w (suc n) es live few = (length-take-le (suc n) es few, omega arith)

pub live_or : (w n : ℕ) (es : List End) → (n ≡ 0 → IsLive (with_ends n w es) → ⊥) × ((n ≡ 0 → ⊥) → IsLive (with_ends n w es))
live_or w zero es = (λ e live. live, λ some. absurd (some refl))
live_or w (suc n) es = (λ e live. omega (arith, e), λ some. tt)

-- ---- a cell is live with open ends

pub filled_count : (n : ℕ) → 0 < n → one_if_zero n ≡ 0
filled_count zero some = absurd (omega arith)
filled_count (suc n) some = refl

-- ---- the first cell that was never used isn't free any more

pub new_begun : (most : ℕ) (xs : List CellWords) (l : FreeList) (c : Content) → ListsFree most xs l → (l.fresh ≡ length xs → ⊥) → 0 < c.count → c.count ≤ most → ListsFree most (set xs l.fresh (Some (Some c))) (list_with l.next (l.fresh + 1) (l.free - 1))
new_begun most xs l c h some filled room =
    let i = l.fresh in let new = Some (Some c) in let few = h.unused.0 in let inside = fresh_inside most xs l h some in
    let was : get_or xs i None ≡ Some None = h.unused.1 i (omega arith) inside in
    let before : vacancy (get_or xs i None) ≡ 1 = ap vacancy was in
    let after : vacancy new ≡ 0 = filled_count c.count filled in
    let long = length-set xs i new in
    let apart = not_listed xs i (λ k at. subst (λ s. IsVacantTo s k) was at) l.next h.free h.listed in
    record {
      few = cell_set most xs i new inside room h.few;
      free = h.free;
      listed = list_set xs i new l.next h.free apart h.listed;
      once = h.once;
      unused = (omega (arith, inside, long), less_new xs i new h.unused.1);
      all = omega (arith, sum_by-set vacancy xs i new None inside, before, after, h.all, long);
      count = omega (arith, h.count, inside, long);
    }

pub begun : (c : Content) → 0 < c.count → c.count ≤ length c.ends → IsBegun c.word c.count (state_in c)
begun c some few = (take c.count c.ends, length-take-le c.count c.ends few, live_written c.word c.count c.ends some)

-- ---- a new row

all_new : (n : ℕ) → (map state_of (replicate n (Some None)) ≡ replicate n Vacant) × (vacancies (replicate n (Some None)) ≡ n)
all_new zero = (refl, refl)
all_new (suc n) =
    let rest = all_new n in let some : List CellWords = replicate n (Some None) in
    (ap (λ l. Vacant ∷ l) rest.0, omega (arith, sum_by-cons vacancy (Some None) some, rest.1))

pub new_row : (most : ℕ) (n : ℕ) → ListsFree most (replicate n (Some None)) (list_with n 0 n) × (states (replicate n (Some None)) ≡ replicate n Vacant)
new_row most n =
    let new : List CellWords = replicate n (Some None) in let all = all_new n in
    let long : length new ≡ n = length-replicate n (Some None) in (
      record {
        few = λ i. elim (cases_lt i n) [
          | inl lt ↦ subst (IsCell most) (sym (get_or-replicate n i (Some None) None lt)) tt
          | inr le ↦ subst (IsCell most) (sym (get_or_past new i None (omega (arith, le, long)))) tt
        ];
        free = [];
        listed = sym long;
        once = tt;
        unused = (omega arith, λ i le lt. get_or-replicate n i (Some None) None (omega (arith, lt, long)));
        all = let z = all.1 in omega (arith, z, long);
        count = omega (arith, long);
      },
      all.0,
    )
