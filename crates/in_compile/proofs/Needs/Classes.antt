-- Numbers of cells by class: two needs that are alike are one, and one class is the first that is short. What a loop over all classes keeps.
use Rattle.std.proofs.Common.{◌≡◌, ◌⊎◌, inl, inr, ◌<◌, ◌≤◌, ◌+◌, ℕ, zero, suc, cond, nat_lt, length, get_or, sum_by, Option, Some, None, refl, sym, ap, subst, ◌∙◌, arith}
use Rattle.std.specs.Prelude.{List, MatchOption}
use Rattle.std.proofs.lemmas.Bool.{cases_eq, cases_lt}
use Rattle.std.proofs.lemmas.Bool.Decides.{nat_tests}
use Rattle.in_arena.specs.Classes.{all_of, amount, class_no, classes}
use Rattle.in_arena.proofs.Public.{same_class}
use Rattle.in_arena.specs.declared.content.CellClass.{CellClass}
use Rattle.in_arena.specs.declared.content.CellClass.TheVariants.{Small, Large, Wide}
use Rattle.in_arena.specs.declared.content.CellCounts.{CellCounts}
use Rattle.in_symbols.specs.Tables.{Tables}
use Rattle.in_net.specs.declared.nets.Cell.{Cell}
use Rattle.in_compile.specs.declared.cells.Need.{Need}
use Rattle.in_compile.specs.Cells.{count_of, need_by, IsEnough, IsFirstShort, IsNeedOf}
use Rattle.in_compile.specs.Listing.{of_class}

-- ---- needs

pub counted_by : (f : CellClass → ℕ) (c : CellClass) → count_of (need_by f) c ≡ f c
counted_by f Small = refl
counted_by f Large = refl
counted_by f Wide = refl

pub same_need : (x y : Need) → ((c : CellClass) → count_of x c ≡ count_of y c) → x ≡ y
same_need x y h = λ i. need_by (λ c. h c i)

pub one_need : (t : Tables) (agents : List (Option Cell)) (x y : Need) → IsNeedOf t agents x → IsNeedOf t agents y → x ≡ y
one_need t agents x y h g = same_need x y (λ c. h c ∙ sym (g c))

pub one_short : (need free : CellClass → ℕ) (c d : CellClass) → IsFirstShort need free c → IsFirstShort need free d → c ≡ d
one_short need free c d h g = go (let o : (class_no c ≡ class_no d) ⊎ (class_no c < class_no d) ⊎ (class_no d < class_no c) = grind arith in o)
  where
    go : (class_no c ≡ class_no d) ⊎ (class_no c < class_no d) ⊎ (class_no d < class_no c) → c ≡ d
    go (inl e) = same_class c d e
    go (inr (inl l)) = absurd (let a = h.0 in let b = g.1 c l in omega (arith, a, b))
    go (inr (inr l)) = absurd (let a = g.0 in let b = h.1 d l in omega (arith, a, b))

-- .. and whether one is short
pub short_or_none : (need free : CellClass → ℕ) (x y : Option CellClass) → MatchOption x (IsEnough need free) (IsFirstShort need free) → MatchOption y (IsEnough need free) (IsFirstShort need free) → x ≡ y
short_or_none need free None None h g = refl
short_or_none need free None (Some d) h g = absurd (let a = h d in let b = g.0 in omega (arith, a, b))
short_or_none need free (Some c) None h g = absurd (let a = g c in let b = h.0 in omega (arith, a, b))
short_or_none need free (Some c) (Some d) h g = ap (λ (k : CellClass). Some k) (one_short need free c d h g)

-- the first class that is short, if as many cells are needed
pub short_needed : (need more free : CellClass → ℕ) (c : CellClass) → ((d : CellClass) → need d ≡ more d) → IsFirstShort need free c → IsFirstShort more free c
short_needed need more free c same h = ((let e = same c in let a = h.0 in omega (arith, e, a)), (λ d l. (let e = same d in let a = h.1 d l in omega (arith, e, a))))

-- ---- classes

-- two classes are one, or they differ
pub is_class : (c d : CellClass) → (c ≡ d) ⊎ (c ≡ d → ⊥)
is_class c d = go (cases_eq (class_no c) (class_no d))
  where
    go : (class_no c ≡ class_no d) ⊎ (class_no c ≡ class_no d → ⊥) → (c ≡ d) ⊎ (c ≡ d → ⊥)
    go (inl e) = inl (same_class c d e)
    go (inr apart) = inr (λ e. apart (ap class_no e))

-- each class is in the list of all, at the place of its number
class_in_list : (c : CellClass) → (class_no c < length classes) × (get_or classes (class_no c) Small ≡ c)
class_in_list Small = (omega arith, refl)
class_in_list Large = (omega arith, refl)
class_in_list Wide = (omega arith, refl)

pub number_below_all : (c : CellClass) → class_no c < length classes
number_below_all c = (class_in_list c).0

number_at_place : (k : ℕ) → k < length classes → class_no (get_or classes k Small) ≡ k
number_at_place zero l = refl
number_at_place (suc zero) l = refl
number_at_place (suc (suc zero)) l = refl
number_at_place (suc (suc (suc k))) l = absurd (omega (arith, l))

-- ---- a loop over all classes

-- each class before this place in the list of all has it
abbrev pub HaveItSoFar : (CellClass → Type 0) → ℕ → Type 0
HaveItSoFar P k = (c : CellClass) → class_no c < k → P c

-- .. and the class of that place
pub one_class_further : (P : CellClass → Type 0) (k : ℕ) → HaveItSoFar P k → P (get_or classes k Small) → HaveItSoFar P (k + 1)
one_class_further P k before here c l = go (cases_lt (class_no c) k)
  where
    go : (class_no c < k) ⊎ (k ≤ class_no c) → P c
    go (inl less) = before c less
    go (inr le) = let at : k ≡ class_no c = omega (arith, l, le) in subst P (ap (λ (n : ℕ). get_or classes n Small) at ∙ (class_in_list c).1) here

pub all_classes_have_it : (P : CellClass → Type 0) (k : ℕ) → length classes ≤ k → HaveItSoFar P k → (c : CellClass) → P c
all_classes_have_it P k past before c = before c (let l = (class_in_list c).0 in omega (arith, l, past))

pub sum_at_most : (f : CellClass → ℕ) (most : CellCounts) → ((c : CellClass) → f c ≤ amount most c) → sum_by f classes ≤ all_of most
sum_at_most f most each = omega (arith, each Small, each Large, each Wide)

-- the numbers of the classes before this place, and 0 for the others
abbrev pub up_to : (CellClass → ℕ) → ℕ → CellClass → ℕ
up_to f k c = cond (nat_lt (class_no c) k) (f c) 0

-- the class of that place isn't among them
pub not_yet : (f : CellClass → ℕ) (k : ℕ) → k < length classes → up_to f k (get_or classes k Small) ≡ 0
not_yet f k l = let n = number_at_place k l in grind (arith, nat_tests, n)

pub one_class_added : (f : CellClass → ℕ) (k : ℕ) → k < length classes → (c : CellClass) → up_to f (k + 1) c ≡ up_to f k c + of_class (get_or classes k Small) (f (get_or classes k Small)) c
one_class_added f k l c = go (is_class (get_or classes k Small) c)
  where
    n : class_no (get_or classes k Small) ≡ k
    n = number_at_place k l

    go : (get_or classes k Small ≡ c) ⊎ (get_or classes k Small ≡ c → ⊥) → up_to f (k + 1) c ≡ up_to f k c + of_class (get_or classes k Small) (f (get_or classes k Small)) c
    go (inl e) = let number = ap class_no e in let same = ap f e in grind (arith, nat_tests, n, number, same)
    go (inr apart) = let other : class_no (get_or classes k Small) ≡ class_no c → ⊥ = λ e. apart (same_class (get_or classes k Small) c e) in grind (arith, nat_tests, n, other)

pub all_classes_added : (f : CellClass → ℕ) (k : ℕ) → length classes ≤ k → (c : CellClass) → up_to f k c ≡ f c
all_classes_added f k past c = let l = (class_in_list c).0 in grind (arith, nat_tests, l, past)
