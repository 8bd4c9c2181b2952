-- Cells that lie class by class, and a change of one of them, as contracts see them.
use Rattle.std.proofs.Common.{◌≡◌, ℕ, ◌+◌, ◌<◌, List, [], ◌++◌, map, flat_map, take, drop, length, set, get_or, replicate, count_by, refl, sym, ap, ◌∙◌, arith, length-append}
use Rattle.std.proofs.lemmas.List.{replicate-append-replicate}
use denote.RawPtr.{Ptr, null_ptr}
use Rattle.in_arena.specs.Arenas.{memory_of, state_at, changed, free_of}
use Rattle.in_arena.specs.ByClass.{seen, IsPlace, RowsChange}
use Rattle.in_arena.specs.Classes.{classes, class_no, IsNumberOf, all_of, amount, first_of}
use Rattle.in_arena.specs.States.{State, Leased, is_vacant}
use Rattle.in_arena.specs.declared.content.CellClass.{CellClass}
use Rattle.in_arena.specs.declared.content.CellClass.TheVariants.{Small, Large, Wide}
use Rattle.in_arena.specs.declared.content.CellCounts.{CellCounts}
use Rattle.in_arena.proofs.Arenas.{state_inside}
use Rattle.in_arena.proofs.Classes.{known, at_class}
use Rattle.in_arena.proofs.Parts.{joined, before, get_in, set_in, part_in, joined_map}

-- ---- numbers and places

-- the cells of a class are below all cells
pub place_inside : (cells : CellCounts) (c : CellClass) (i : ℕ) → i < amount cells c → first_of cells c + i < all_of cells
place_inside cells Small i lt = omega (arith, lt)
place_inside cells Large i lt = omega (arith, lt)
place_inside cells Wide i lt = omega (arith, lt)

pub number_of_place : (cells : CellCounts) (n : ℕ) (c : CellClass) (i : ℕ) → IsPlace cells n c i → IsNumberOf cells c n
number_of_place cells n c i p = let lt = p.0 in let at = p.1 in (omega (arith, at), omega (arith, lt, at))

module _ (block : CellClass → Ptr) (cells : CellCounts) (row : CellClass → List State) (long : (c : CellClass) → length (row c) ≡ amount cells c) where
  abbrev rows : List (List State)
  rows = map row classes

  row_is : (c : CellClass) → get_or rows (class_no c) [] ≡ row c
  row_is c = at_class row [] c

  row_long : (c : CellClass) → length (get_or rows (class_no c) []) ≡ amount cells c
  row_long c = ap length (row_is c) ∙ long c

  -- the rows before that of a class
  starts : (c : CellClass) → before (class_no c) rows ≡ first_of cells c
  starts Small = omega arith
  starts Large = omega (arith, long Small)
  starts Wide = omega (arith, long Small, long Large)

  states_are : joined rows ≡ flat_map row classes
  states_are = joined_map row classes

  pub all_long : length (seen block cells row).states ≡ all_of cells
  all_long =
      let none : List State = [] in let all : length (seen block cells row).states ≡ length (row Small ++ (row Large ++ (row Wide ++ none))) = refl in
      omega (arith, all, length-append (row Small) (row Large ++ (row Wide ++ none)), length-append (row Large) (row Wide ++ none), length-append (row Wide) none, long Small, long Large, long Wide)

  inside_row : (c : CellClass) (i : ℕ) → i < amount cells c → i < length (get_or rows (class_no c) [])
  inside_row c i lt = omega (arith, lt, row_long c)

  pub at_place : (n : ℕ) (c : CellClass) (i : ℕ) → IsPlace cells n c i → state_at (seen block cells row) n ≡ get_or (row c) i Leased
  at_place n c i p =
      ap (state_at (seen block cells row)) (p.1 ∙ ap (λ k. k + i) (sym (starts c))) ∙ ap (λ l. get_or l (before (class_no c) rows + i) Leased) (sym states_are) ∙ get_in (class_no c) i Leased rows (known c) (inside_row c i p.0)
      ∙ ap (λ l. get_or l i Leased) (row_is c)

  pub changed_at : (block' : CellClass → Ptr) (cells' : CellCounts) (row' : CellClass → List State) (n : ℕ) (c : CellClass) (i : ℕ) (x : State) → IsPlace cells n c i → (map block' classes ≡ map block classes) × (cells' ≡ cells) → RowsChange row row' c i x
      → seen block' cells' row' ≡ changed (seen block cells row) n x
  changed_at block' cells' row' n c i x p memory change =
      let new : flat_map row' classes ≡ set (flat_map row classes) n x =
      sym (joined_map row' classes) ∙ ap joined change ∙ ap (λ l. joined (set rows (class_no c) (set l i x))) (sym (row_is c))
      ∙ sym (set_in (class_no c) i x rows (known c) (inside_row c i p.0)) ∙ ap (λ l. set l (before (class_no c) rows + i) x) states_are ∙ ap (λ k. set (flat_map row classes) k x) (sym (p.1 ∙ ap (λ k. k + i) (sym (starts c))))
      in
      λ j. record { memory = memory.0 j; cells = memory.1 j; states = new j }

  pub free_is : (c : CellClass) → free_of (seen block cells row) c ≡ count_by is_vacant (row c)
  free_is c =
      ap (λ l. count_by is_vacant (take (amount cells c) (drop (first_of cells c) l))) (sym states_are)
      ∙ ap (λ k. count_by is_vacant (take (amount cells c) (drop k (joined rows)))) (sym (starts c)) ∙ ap (λ k. count_by is_vacant (take k (drop (before (class_no c) rows) (joined rows)))) (sym (row_long c))
      ∙ ap (count_by is_vacant) (part_in (class_no c) rows (known c) ∙ row_is c)

  pub inside : (n : ℕ) → (state_at (seen block cells row) n ≡ Leased → ⊥) → n < all_of cells
  inside n here = let lt = state_inside (seen block cells row) n here in omega (arith, lt, all_long)

pub memory_is : (block : CellClass → Ptr) (cells : CellCounts) (row : CellClass → List State) (c : CellClass) → memory_of (seen block cells row) c ≡ block c
memory_is block cells row c = at_class block null_ptr c

-- all cells are that
pub alike : (block : CellClass → Ptr) (cells : CellCounts) (row : CellClass → List State) (x : State) → ((c : CellClass) → row c ≡ replicate (amount cells c) x) → (seen block cells row).states ≡ replicate (all_of cells) x
alike block cells row x same =
    let none : List State = [] in let all : (seen block cells row).states ≡ row Small ++ (row Large ++ (row Wide ++ none)) = refl in
    all ∙ ap (λ l. l ++ (row Large ++ (row Wide ++ none))) (same Small) ∙ ap (λ l. replicate cells.small_cells x ++ (l ++ (row Wide ++ none))) (same Large) ∙ ap (λ l. replicate cells.small_cells x ++ (replicate cells.large_cells x ++ (l ++ none))) (same Wide)
    ∙ ap (λ l. replicate cells.small_cells x ++ (replicate cells.large_cells x ++ l)) (replicate-append-replicate cells.wide_cells 0 x) ∙ ap (λ l. replicate cells.small_cells x ++ l) (replicate-append-replicate cells.large_cells (cells.wide_cells + 0) x)
    ∙ replicate-append-replicate cells.small_cells (cells.large_cells + (cells.wide_cells + 0)) x ∙ ap (λ n. replicate n x) (omega arith)
