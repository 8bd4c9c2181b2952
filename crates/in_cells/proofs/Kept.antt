-- Properties of cells that stay if only the ends at places are written.
use Rattle.std.proofs.Common.{◌≡◌, ◌*◌, ◌+◌, ℕ, Bool, cond, List, [], ◌∷◌, map, get_or, take, drop, refl, sym, ap, ◌∙◌}
use Rattle.std.proofs.Math.Seq.{map-set_same}
use Rattle.std.proofs.Math.ListN.{get_or-map}
use Rattle.std.specs.Prelude.{count_by}
use Rattle.std.proofs.lemmas.List.{take-map, drop-map, length-map}
use Rattle.std.proofs.lemmas.List.Sums.{sum_by-cons}
use Rattle.in_arena.specs.Arenas.{ArenaView, state_at, changed, free_of}
use Rattle.in_arena.specs.Classes.{amount, first_of}
use Rattle.in_arena.specs.States.{State, Vacant, Leased, Live, is_vacant, word_of, places, with_end}
use Rattle.in_arena.specs.declared.content.CellClass.{CellClass}
use Rattle.in_arena.specs.declared.content.CellCounts.{CellCounts}
use Rattle.in_arena.specs.declared.content.End.{End}
use Rattle.in_arena.specs.declared.content.End.TheVariants as end
use Rattle.in_cells.specs.Cells.{outline, KeepsCells}

-- ---- the outline of a cell

outline_vacant : (s : State) → is_vacant (outline s) ≡ is_vacant s
outline_vacant Vacant = refl
outline_vacant Leased = refl
outline_vacant (Live word ends) = refl

outline_word : (s : State) → word_of (outline s) ≡ word_of s
outline_word Vacant = refl
outline_word Leased = refl
outline_word (Live word ends) = refl

outline_places : (s : State) → places (outline s) ≡ places s
outline_places Vacant = refl
outline_places Leased = refl
outline_places (Live word ends) = length-map ends (λ (x : End). end.Free 0)

outline_written : (s : State) (i : ℕ) (x : End) → outline (with_end s i x) ≡ outline s
outline_written Vacant i x = refl
outline_written Leased i x = refl
outline_written (Live word ends) i x = ap (λ (ends : List End). Live word ends) (map-set_same (λ (x : End). end.Free 0) ends i x x refl)

abbrev one_if_vacant : State → ℕ
one_if_vacant s = cond (is_vacant s) 1 0

count_outlines : (xs : List State) → count_by is_vacant (map outline xs) ≡ count_by is_vacant xs
count_outlines [] = refl
count_outlines (x ∷ xs) =
    sum_by-cons one_if_vacant (outline x) (map outline xs)
    ∙ ap (λ (b : Bool). cond b 1 0 + count_by is_vacant (map outline xs)) (outline_vacant x)
    ∙ ap (λ (n : ℕ). one_if_vacant x + n) (count_outlines xs)
    ∙ sym (sum_by-cons one_if_vacant x xs)

part_outlined : (k j : ℕ) (xs : List State) → count_by is_vacant (take k (drop j (map outline xs))) ≡ count_by is_vacant (take k (drop j xs))
part_outlined k j xs = ap (λ (ys : List State). count_by is_vacant (take k ys)) (drop-map outline j xs) ∙ ap (count_by is_vacant) (take-map outline k (drop j xs)) ∙ count_outlines (take k (drop j xs))

free_same : (old new : ArenaView) (c : CellClass) → new.cells ≡ old.cells → map outline new.states ≡ map outline old.states → free_of new c ≡ free_of old c
free_same old new c cells h =
    sym (part_outlined (amount new.cells c) (first_of new.cells c) new.states)
    ∙ ap (λ (xs : List State). count_by is_vacant (take (amount new.cells c) (drop (first_of new.cells c) xs))) h
    ∙ part_outlined (amount new.cells c) (first_of new.cells c) old.states
    ∙ ap (λ (k : CellCounts). count_by is_vacant (take (amount k c) (drop (first_of k c) old.states))) cells

-- ---- cells that are kept

pub keeps : (a : ArenaView) → KeepsCells a a
keeps a = record { memory = refl; cells = refl; outlines = refl; free = λ c. refl }

pub keep_on : (a b c : ArenaView) → KeepsCells a b → KeepsCells b c → KeepsCells a c
keep_on a b c h k = record { memory = k.memory ∙ h.memory; cells = k.cells ∙ h.cells; outlines = k.outlines ∙ h.outlines; free = λ d. k.free d ∙ h.free d }

pub place_written : (a b : ArenaView) (y i : ℕ) (x : End) → b ≡ changed a y (with_end (state_at a y) i x) → KeepsCells a b
place_written a b y i x e = record {
  memory = ap (λ (b : ArenaView). b.memory) e;
  cells = ap (λ (b : ArenaView). b.cells) e;
  outlines = outlines;
  free = λ c. free_same a b c (ap (λ (b : ArenaView). b.cells) e) outlines;
}
  where
    outlines : map outline b.states ≡ map outline a.states
    outlines = ap (λ (b : ArenaView). map outline b.states) e ∙ map-set_same outline a.states y (with_end (state_at a y) i x) Leased (outline_written (state_at a y) i x)

module _ (a b : ArenaView) (h : KeepsCells a b) (y : ℕ) where
  outline_kept : outline (state_at b y) ≡ outline (state_at a y)
  outline_kept = sym (get_or-map outline b.states y Leased) ∙ ap (λ (xs : List State). get_or xs y Leased) h.outlines ∙ get_or-map outline a.states y Leased

  pub word_kept : word_of (state_at b y) ≡ word_of (state_at a y)
  word_kept = sym (outline_word (state_at b y)) ∙ ap word_of outline_kept ∙ outline_word (state_at a y)

  pub places_kept : places (state_at b y) ≡ places (state_at a y)
  places_kept = sym (outline_places (state_at b y)) ∙ ap places outline_kept ∙ outline_places (state_at a y)
