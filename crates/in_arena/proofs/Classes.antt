-- Consequences of the numbers and widths of classes.
use Rattle.std.proofs.Common.{◌≡◌, ◌≤◌, ◌<◌, ◌+◌, ℕ, zero, suc, length, map, get_or, slice_get, Some, None, refl, sym, ap, ⊎_elim, arith}
use Rattle.std.proofs.lemmas.Option.{same_Some}
use Rattle.std.proofs.lemmas.Bool.{cases_lt}
use Rattle.in_arena.specs.Classes.{Holds, IsNumberOf, all_of, amount, class_no, classes, each, first_of}
use Rattle.in_arena.specs.Limiting.{AreAllowed}
use Rattle.in_arena.specs.declared.content.CellClass.{CellClass}
use Rattle.in_arena.specs.declared.content.CellClass.TheVariants.{Small, Large, Wide}
use Rattle.in_arena.specs.declared.content.CellCounts.{CellCounts}

pub known : (c : CellClass) → class_no c < length classes
known Small = omega arith
known Large = omega arith
known Wide = omega arith

-- the class of a number is at that place of the list
pub at_class : {A : Type 0} (f : CellClass → A) (d : A) (c : CellClass) → get_or (map f classes) (class_no c) d ≡ f c
at_class f d Small = refl
at_class f d Large = refl
at_class f d Wide = refl

-- .. and its place is the number
pub number_at : (i : ℕ) (c : CellClass) → slice_get classes i ≡ Some c → class_no c ≡ i
number_at zero c e = ap class_no (sym (same_Some Small c e))
number_at (suc zero) c e = ap class_no (sym (same_Some Large c e))
number_at (suc (suc zero)) c e = ap class_no (sym (same_Some Wide c e))
number_at (suc (suc (suc i))) c e = absurd (let f : None ≡ Some c = e in cc)

pub class_of_number : (cells : CellCounts) (n : ℕ) → n < all_of cells → (c : CellClass) × IsNumberOf cells c n
class_of_number cells n lt =
    ⊎_elim
    (λ first. (Small, (omega arith, omega (arith, first))))
    (λ after. ⊎_elim (λ second. (Large, (omega (arith, after), omega (arith, second)))) (λ third. (Wide, (omega (arith, third), omega (arith, lt)))) (cases_lt n (cells.small_cells + cells.large_cells)))
    (cases_lt n cells.small_cells)

pub numbers_apart : (cells : CellCounts) (n : ℕ) (c d : CellClass) → IsNumberOf cells c n → IsNumberOf cells d n → c ≡ d
numbers_apart cells n Small Small p q = refl
numbers_apart cells n Small Large p q = let below = p.1 in let from = q.0 in absurd (omega (arith, below, from))
numbers_apart cells n Small Wide p q = let below = p.1 in let from = q.0 in absurd (omega (arith, below, from))
numbers_apart cells n Large Small p q = let from = p.0 in let below = q.1 in absurd (omega (arith, below, from))
numbers_apart cells n Large Large p q = refl
numbers_apart cells n Large Wide p q = let below = p.1 in let from = q.0 in absurd (omega (arith, below, from))
numbers_apart cells n Wide Small p q = let from = p.0 in let below = q.1 in absurd (omega (arith, below, from))
numbers_apart cells n Wide Large p q = let from = p.0 in let below = q.1 in absurd (omega (arith, below, from))
numbers_apart cells n Wide Wide p q = refl

-- the cells of a class are among all cells
pub class_within : (cells : CellCounts) (c : CellClass) → first_of cells c + amount cells c ≤ all_of cells
class_within cells Small = omega arith
class_within cells Large = omega arith
class_within cells Wide = omega arith

-- a class has no more cells than there are of all classes
pub class_few : (cells : CellCounts) → AreAllowed cells → (c : CellClass) → (amount cells c ≤ 16777216) × (all_of cells ≤ 33554432)
class_few cells few Small = let s = few.small in let l = few.large in let w = few.wide in (s, omega (arith, s, l, w))
class_few cells few Large = let s = few.small in let l = few.large in let w = few.wide in (omega (arith, l), omega (arith, s, l, w))
class_few cells few Wide = let s = few.small in let l = few.large in let w = few.wide in (omega (arith, w), omega (arith, s, l, w))

-- two classes with one number are one
pub same_class : (c d : CellClass) → class_no c ≡ class_no d → c ≡ d
same_class Small Small e = refl
same_class Large Large e = refl
same_class Wide Wide e = refl
same_class Small Large e = absurd (omega (arith, e))
same_class Small Wide e = absurd (omega (arith, e))
same_class Large Small e = absurd (omega (arith, e))
same_class Large Wide e = absurd (omega (arith, e))
same_class Wide Small e = absurd (omega (arith, e))
same_class Wide Large e = absurd (omega (arith, e))

-- the number of cells of the first k classes
abbrev pub of_first : CellCounts → ℕ → ℕ
of_first cells zero = 0
of_first cells (suc zero) = cells.small_cells
of_first cells (suc (suc zero)) = cells.small_cells + cells.large_cells
of_first cells (suc (suc (suc k))) = all_of cells

-- the classes before one have the cells before its first
pub first_is : (cells : CellCounts) (c : CellClass) → (of_first cells (class_no c) ≡ first_of cells c) × (of_first cells (class_no c + 1) ≡ first_of cells c + amount cells c)
first_is cells Small = (refl, omega arith)
first_is cells Large = (refl, refl)
first_is cells Wide = (refl, refl)

-- as many cells of each class are as many cells
pub counts_alike : (x y : CellCounts) → ((c : CellClass) → amount x c ≡ amount y c) → all_of x ≡ all_of y
counts_alike x y alike = omega (arith, alike Small, alike Large, alike Wide)

-- where each class has as many, this one has
pub each_amount : (n : ℕ) (c : CellClass) → amount (each n) c ≡ n
each_amount n Small = refl
each_amount n Large = refl
each_amount n Wide = refl

pub held_some : (c : CellClass) (n : ℕ) → Holds c n → 0 < n
held_some Small n held = let least_ = held.0 in omega (arith, least_)
held_some Large n held = let least_ = held.0 in omega (arith, least_)
held_some Wide n held = let least_ = held.0 in omega (arith, least_)
