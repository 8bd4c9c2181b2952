-- Where the words of cells are: no two cells share one, and each word is some cell's.
use Rattle.std.proofs.Common.{◌≡◌, ◌≢◌, ℕ, zero, suc, ◌+◌, ◌-◌, ◌*◌, ◌<◌, ◌≤◌, List, map, length, get_or, None, refl, sym, ap, ◌∙◌, subst, ⊎_elim, arith}
use Rattle.std.specs.Prelude.{◌/◌, ◌%◌}
use Rattle.std.specs.List.{range_with_len}
use Rattle.std.proofs.lemmas.Bool.{cases_lt, cond_below, cond_above}
use Rattle.std.proofs.lemmas.List.{ext_get_or}
use Rattle.std.proofs.lemmas.List.FromFn.{length-map-range_with_len, get_or-map-range_with_len}
use Rattle.in_arena.specs.Classes.{all_of, amount, first_of, width}
use Rattle.in_arena.specs.Words.{Word, far_of, far_start, middle_of, middle_start, words_of, spot, slots, head, slot_of, IsHead, end_of, cell_of, word_at, ends_in, cell_in, row_in, IsInOneState, Gone, New, Filled, ChangesCell}
use Rattle.in_arena.specs.declared.content.CellClass.{CellClass}
use Rattle.in_arena.specs.declared.content.CellClass.TheVariants.{Small, Large, Wide}
use Rattle.in_arena.specs.declared.content.CellCounts.{CellCounts}
use Rattle.in_arena.specs.declared.content.End.{End}

-- ---- numbers of words

pub spot_near : (c : CellClass) (cells : CellCounts) (i q : ℕ) → q < 4 → spot c cells i q ≡ 4 * (first_of cells c + i) + q
spot_near c cells i zero lt = omega arith
spot_near c cells i (suc zero) lt = refl
spot_near c cells i (suc (suc zero)) lt = refl
spot_near c cells i (suc (suc (suc zero))) lt = refl
spot_near c cells i (suc (suc (suc (suc q)))) lt = absurd (omega arith)

pub spot_middle : (c : CellClass) (cells : CellCounts) (i q : ℕ) → 4 ≤ q → q < 10 → spot c cells i q ≡ middle_of c cells i + (q - 4)
spot_middle c cells i zero le lt = absurd (omega arith)
spot_middle c cells i (suc zero) le lt = absurd (omega arith)
spot_middle c cells i (suc (suc zero)) le lt = absurd (omega arith)
spot_middle c cells i (suc (suc (suc zero))) le lt = absurd (omega arith)
spot_middle c cells i (suc (suc (suc (suc q)))) le lt =
    let e : suc (suc (suc (suc q))) - 4 ≡ q = omega arith in
    sym (cond_below q 6 (middle_of c cells i + q) (far_of cells i + (q - 6)) (omega (arith, lt))) ∙ ap (λ k. middle_of c cells i + k) (sym e)

pub spot_far : (c : CellClass) (cells : CellCounts) (i q : ℕ) → 10 ≤ q → spot c cells i q ≡ far_of cells i + (q - 10)
spot_far c cells i zero le = absurd (omega arith)
spot_far c cells i (suc zero) le = absurd (omega arith)
spot_far c cells i (suc (suc zero)) le = absurd (omega arith)
spot_far c cells i (suc (suc (suc zero))) le = absurd (omega arith)
spot_far c cells i (suc (suc (suc (suc q)))) le =
    let e : suc (suc (suc (suc q))) - 10 ≡ q - 6 = omega arith in
    sym (cond_above q 6 (middle_of c cells i + q) (far_of cells i + (q - 6)) (far_of cells i + (q - 6)) (omega (arith, le)) refl) ∙ ap (λ k. far_of cells i + k) (sym e)

pub slot_near : (p : ℕ) → p < 3 → slot_of p ≡ p
slot_near zero lt = refl
slot_near (suc zero) lt = refl
slot_near (suc (suc zero)) lt = refl
slot_near (suc (suc (suc p))) lt = absurd (omega arith)

pub slot_far : (p : ℕ) → 3 ≤ p → slot_of p ≡ p + 1
slot_far zero le = absurd (omega arith)
slot_far (suc zero) le = absurd (omega arith)
slot_far (suc (suc zero)) le = absurd (omega arith)
slot_far (suc (suc (suc p))) le = omega arith

-- a place is no head, and two places are two words
pub slot_no_head : (p : ℕ) → slot_of p ≢ head
slot_no_head p e = ⊎_elim (λ lt. absurd (omega (arith, slot_near p lt, e, lt))) (λ le. absurd (omega (arith, slot_far p le, e, le))) (cases_lt p 3)

pub slot_one : (p r : ℕ) → slot_of p ≡ slot_of r → p ≡ r
slot_one p r e =
    ⊎_elim
    (λ a. ⊎_elim (λ b. omega (arith, e, slot_near p a, slot_near r b)) (λ b. absurd (omega (arith, e, a, b, slot_near p a, slot_far r b))) (cases_lt r 3))
    (λ a. ⊎_elim (λ b. absurd (omega (arith, e, a, b, slot_far p a, slot_near r b))) (λ b. omega (arith, e, slot_far p a, slot_far r b)) (cases_lt r 3))
    (cases_lt p 3)

pub slot_inside : (c : CellClass) (p : ℕ) → p < width c → slot_of p < slots c
slot_inside c p lt = ⊎_elim (λ a. omega (arith, slot_near p a, lt)) (λ a. omega (arith, slot_far p a, lt)) (cases_lt p 3)

pub head_inside : (c : CellClass) → head < slots c
head_inside Small = omega arith
head_inside Large = omega arith
head_inside Wide = omega arith

-- ---- each word is of one cell

pub near_below : (c : CellClass) (cells : CellCounts) (i : ℕ) → i < amount cells c → first_of cells c + i < all_of cells
near_below Small cells i lt = omega (arith, lt)
near_below Large cells i lt = omega (arith, lt)
near_below Wide cells i lt = omega (arith, lt)

-- the number of a cell among the large and the wide ones
abbrev pub among_larger : CellClass → CellCounts → ℕ → ℕ
among_larger Small cells i = 0
among_larger Large cells i = i
among_larger Wide cells i = cells.large_cells + i

-- further words of a cell, by their bounds
middle_bounds : (c : CellClass) (cells : CellCounts) (i k : ℕ) → i < amount cells c → k < 6 → k + 4 < slots c → (middle_of c cells i ≡ middle_start cells + 6 * among_larger c cells i) × (first_of cells c + i ≡ cells.small_cells + among_larger c cells i) × (among_larger c cells i < cells.large_cells + cells.wide_cells)
middle_bounds Small cells i k lt few in_it = absurd (omega (arith, in_it))
middle_bounds Large cells i k lt few in_it = (refl, refl, omega (arith, lt))
middle_bounds Wide cells i k lt few in_it = (refl, omega arith, omega (arith, lt))

far_bounds : (c : CellClass) (cells : CellCounts) (i k : ℕ) → i < amount cells c → k + 10 < slots c → (first_of cells c + i ≡ cells.small_cells + cells.large_cells + i) × (i < cells.wide_cells)
far_bounds Small cells i k lt in_it = absurd (omega (arith, in_it))
far_bounds Large cells i k lt in_it = absurd (omega (arith, in_it))
far_bounds Wide cells i k lt in_it = (refl, lt)

-- a word of a cell is in one of the three parts of the row
data IsInPart (c : CellClass) (cells : CellCounts) (i q : ℕ) : Type 0 where
  Near : q < 4 → spot c cells i q ≡ 4 * (first_of cells c + i) + q → first_of cells c + i < all_of cells → IsInPart c cells i q
  Middle : 4 ≤ q → q < 10 → (m : ℕ) → spot c cells i q ≡ middle_start cells + 6 * m + (q - 4) → first_of cells c + i ≡ cells.small_cells + m → m < cells.large_cells + cells.wide_cells → IsInPart c cells i q
  Far : 10 ≤ q → q < 18 → spot c cells i q ≡ far_start cells + 8 * i + (q - 10) → first_of cells c + i ≡ cells.small_cells + cells.large_cells + i → i < cells.wide_cells → IsInPart c cells i q

slots_few : (c : CellClass) → slots c ≤ 18
slots_few Small = omega arith
slots_few Large = omega arith
slots_few Wide = omega arith

in_part : (c : CellClass) (cells : CellCounts) (i q : ℕ) → i < amount cells c → q < slots c → IsInPart c cells i q
in_part c cells i q lt in_it =
    ⊎_elim
    (λ near. Near near (spot_near c cells i q near) (near_below c cells i lt))
    (λ further.
    ⊎_elim
    (λ middle. let at = spot_middle c cells i q further middle in let b = middle_bounds c cells i (q - 4) lt (omega (arith, further, middle)) (omega (arith, further, in_it)) in Middle further middle (among_larger c cells i) (at ∙ ap (λ k. k + (q - 4)) b.0) b.1 b.2)
    (λ far. let at = spot_far c cells i q far in let b = far_bounds c cells i (q - 10) lt (omega (arith, far, in_it)) in Far far (omega (arith, in_it, slots_few c)) at b.0 b.1)
    (cases_lt q 10))
    (cases_lt q 4)

pub spot_inside : (c : CellClass) (cells : CellCounts) (i q : ℕ) → i < amount cells c → q < slots c → spot c cells i q < words_of cells
spot_inside c cells i q lt in_it = by (in_part c cells i q lt in_it)
  where
    by : IsInPart c cells i q → spot c cells i q < words_of cells
    by (Near few at below) = omega (arith, few, at, below)
    by (Middle some few m at of below) = omega (arith, some, few, at, below)
    by (Far some few at of below) = omega (arith, some, few, at, below)

-- the classes, and the numbers within them, of one number
pub one_number : (c d : CellClass) (cells : CellCounts) (i j : ℕ) → i < amount cells c → j < amount cells d → first_of cells c + i ≡ first_of cells d + j → (c ≡ d) × (i ≡ j)
one_number Small Small cells i j li lj e = (refl, omega (arith, e))
one_number Small Large cells i j li lj e = absurd (omega (arith, li, lj, e))
one_number Small Wide cells i j li lj e = absurd (omega (arith, li, lj, e))
one_number Large Small cells i j li lj e = absurd (omega (arith, li, lj, e))
one_number Large Large cells i j li lj e = (refl, omega (arith, e))
one_number Large Wide cells i j li lj e = absurd (omega (arith, li, lj, e))
one_number Wide Small cells i j li lj e = absurd (omega (arith, li, lj, e))
one_number Wide Large cells i j li lj e = absurd (omega (arith, li, lj, e))
one_number Wide Wide cells i j li lj e = (refl, omega (arith, e))

pub apart : (c d : CellClass) (cells : CellCounts) (i j q r : ℕ) → i < amount cells c → j < amount cells d → q < slots c → r < slots d → spot c cells i q ≡ spot d cells j r → (c ≡ d) × (i ≡ j) × (q ≡ r)
apart c d cells i j q r li lj in_c in_d e = by (in_part c cells i q li in_c) (in_part d cells j r lj in_d)
  where
    of_numbers : first_of cells c + i ≡ first_of cells d + j → q ≡ r → (c ≡ d) × (i ≡ j) × (q ≡ r)
    of_numbers same slot = let one = one_number c d cells i j li lj same in (one.0, one.1, slot)

    by : IsInPart c cells i q → IsInPart d cells j r → (c ≡ d) × (i ≡ j) × (q ≡ r)
    by (Near a at x) (Near b to y) = of_numbers (omega (arith, e, at, to, a, b)) (omega (arith, e, at, to, a, b))
    by (Near a at x) (Middle b b' m to of y) = absurd (omega (arith, e, at, a, x, to, b))
    by (Near a at x) (Far b b' to of y) = absurd (omega (arith, e, at, a, x, to, b))
    by (Middle a a' m at of x) (Near b to y) = absurd (omega (arith, e, to, b, y, at, a))
    by (Middle a a' m at of x) (Middle b b' n to of' y) = of_numbers (omega (arith, e, at, to, a, a', b, b', of, of')) (omega (arith, e, at, to, a, a', b, b'))
    by (Middle a a' m at of x) (Far b b' to of' y) = absurd (omega (arith, e, at, a', x, to, b))
    by (Far a a' at of x) (Near b to y) = absurd (omega (arith, e, to, b, y, at, a))
    by (Far a a' at of x) (Middle b b' n to of' y) = absurd (omega (arith, e, to, b', y, at, a))
    by (Far a a' at of x) (Far b b' to of' y) = of_numbers (omega (arith, e, at, to, a, a', b, b', of, of')) (omega (arith, e, at, to, a, a', b, b'))

-- ---- each word is some cell's

record IsOfSome (cells : CellCounts) (x : ℕ) : Type 0 where
  class : CellClass
  index : ℕ
  slot : ℕ
  inside : index < amount cells class
  in_it : slot < slots class
  is : x ≡ spot class cells index slot

near_some : (cells : CellCounts) (x : ℕ) (c : CellClass) (i : ℕ) → i < amount cells c → x / 4 ≡ first_of cells c + i → IsOfSome cells x
near_some cells x c i lt at =
    let few : x % 4 < 4 = omega arith in
    record { class = c; index = i; slot = x % 4; inside = lt; in_it = omega (arith, few, head_inside c); is = omega (arith, at, spot_near c cells i (x % 4) few) }

pub all_some : (cells : CellCounts) (x : ℕ) → x < words_of cells → (c : CellClass) × (i : ℕ) × (q : ℕ) × (i < amount cells c) × (q < slots c) × (x ≡ spot c cells i q)
all_some cells x lt = let s = some in (s.class, s.index, s.slot, s.inside, s.in_it, s.is)
  where
    -- among the first words of cells
    near : x < middle_start cells → IsOfSome cells x
    near e =
        ⊎_elim
        (λ a. near_some cells x Small (x / 4) (omega (arith, a)) (omega arith))
        (λ a.
        ⊎_elim
        (λ b. near_some cells x Large (x / 4 - cells.small_cells) (omega (arith, a, b)) (omega (arith, a)))
        (λ b. near_some cells x Wide (x / 4 - cells.small_cells - cells.large_cells) (omega (arith, a, b, e)) (omega (arith, a, b)))
        (cases_lt x (4 * (cells.small_cells + cells.large_cells))))
        (cases_lt x (4 * cells.small_cells))

    -- among the further words of large and of wide cells
    middle : middle_start cells ≤ x → x < far_start cells → IsOfSome cells x
    middle e f =
        let y = x - middle_start cells in let few : y % 6 < 6 = omega arith in
        ⊎_elim
        (λ a. record { class = Large; index = y / 6; slot = y % 6 + 4; inside = omega (arith, e, a); in_it = omega (arith, few); is = omega (arith, e, few, spot_middle Large cells (y / 6) (y % 6 + 4) (omega arith) (omega (arith, few))) })
        (λ a.
        let i = y / 6 - cells.large_cells in
        record { class = Wide; index = i; slot = y % 6 + 4; inside = omega (arith, e, f, a); in_it = omega (arith, few); is = omega (arith, e, a, few, spot_middle Wide cells i (y % 6 + 4) (omega arith) (omega (arith, few))) })
        (cases_lt (y / 6) cells.large_cells)

    -- among the last words
    far : far_start cells ≤ x → IsOfSome cells x
    far e =
        let y = x - far_start cells in let few : y % 8 < 8 = omega arith in
        record { class = Wide; index = y / 8; slot = y % 8 + 10; inside = omega (arith, e, lt); in_it = omega (arith, few); is = omega (arith, e, few, spot_far Wide cells (y / 8) (y % 8 + 10) (omega arith)) }

    some : IsOfSome cells x
    some = ⊎_elim near (λ e. ⊎_elim (middle e) far (cases_lt x (far_start cells))) (cases_lt x (middle_start cells))

-- ---- the meaning of the words of a cell

map_range_same : {X : Type 0} (d : X) (f g : ℕ → X) (n : ℕ) → ((p : ℕ) → p < n → f p ≡ g p) → map f (range_with_len 0 n) ≡ map g (range_with_len 0 n)
map_range_same d f g n same =
    ext_get_or d (map f (range_with_len 0 n)) (map g (range_with_len 0 n)) (length-map-range_with_len f 0 n ∙ sym (length-map-range_with_len g 0 n))
    (λ i lt.
    let inside : i < n = omega (arith, lt, length-map-range_with_len f 0 n) in
    get_or-map-range_with_len f 0 n i i d inside (omega arith) ∙ same i inside ∙ sym (get_or-map-range_with_len g 0 n i i d inside (omega arith)))

pub ends_long : (cells : CellCounts) (ws : List Word) (c : CellClass) (i : ℕ) → length (ends_in cells ws c i) ≡ width c
ends_long cells ws c i = length-map-range_with_len (λ p. end_of (word_at cells ws c i (slot_of p))) 0 (width c)

pub end_at_is : (cells : CellCounts) (ws : List Word) (c : CellClass) (i p : ℕ) (d : End) → p < width c → get_or (ends_in cells ws c i) p d ≡ end_of (word_at cells ws c i (slot_of p))
end_at_is cells ws c i p d lt = get_or-map-range_with_len (λ p. end_of (word_at cells ws c i (slot_of p))) 0 (width c) p p d lt (omega arith)

pub row_long : (cells : CellCounts) (ws : List Word) (c : CellClass) → length (row_in cells ws c) ≡ amount cells c
row_long cells ws c = length-map-range_with_len (cell_in cells ws c) 0 (amount cells c)

pub row_at : (cells : CellCounts) (ws : List Word) (c : CellClass) (i : ℕ) → i < amount cells c → get_or (row_in cells ws c) i None ≡ cell_in cells ws c i
row_at cells ws c i lt = get_or-map-range_with_len (cell_in cells ws c) 0 (amount cells c) i i None lt (omega arith)

-- the words of the cell are as before
abbrev pub IsKept : CellCounts → List Word → List Word → CellClass → ℕ → Type 0
IsKept cells old new c i = (q : ℕ) → q < slots c → word_at cells new c i q ≡ word_at cells old c i q

pub kept_cell : (cells : CellCounts) (old new : List Word) (c : CellClass) (i : ℕ) → IsKept cells old new c i → cell_in cells new c i ≡ cell_in cells old c i
kept_cell cells old new c i same =
    ap (λ h. cell_of h (ends_in cells new c i)) (same head (head_inside c))
    ∙ ap (cell_of (word_at cells old c i head)) (map_range_same (end_of None) (λ p. end_of (word_at cells new c i (slot_of p))) (λ p. end_of (word_at cells old c i (slot_of p))) (width c) (λ p lt. ap end_of (same (slot_of p) (slot_inside c p lt))))

pub kept_whole : (cells : CellCounts) (old new : List Word) (c : CellClass) (i : ℕ) → IsKept cells old new c i → IsInOneState cells old c i → IsInOneState cells new c i
kept_whole cells old new c i same (Gone none) = Gone (λ q lt. same q lt ∙ none q lt)
kept_whole cells old new c i same (New new_) = New (λ q lt. same q lt ∙ new_ q lt)
kept_whole cells old new c i same (Filled all first) = Filled (λ q lt. let w = all q lt in (w.0, same q lt ∙ w.1)) (subst (λ w. IsHead (end_of w)) (sym (same head (head_inside c))) first)

-- a cell other than the one that changes
pub other_kept : (cells : CellCounts) (old new : List Word) (c d : CellClass) (i j : ℕ) → i < amount cells c → j < amount cells d → ChangesCell cells old new c i → ((c ≡ d) × (i ≡ j) → ⊥) → IsKept cells old new d j
other_kept cells old new c d i j li lj change differ r in_d =
    change.others (spot d cells j r) (λ q in_c e. let one = apart c d cells i j q r li lj in_c in_d (sym e) in differ (one.0, one.1))
