-- A cell of the table is written.
use Rattle.std.proofs.Common.{◌≡◌, ◌⊎◌, ℕ, ◌+◌, ◌*◌, ◌<◌, Bool, true, false, ◌&&◌, if◌then◌else◌, nat_lt, List, Option, Some, None, length, set, get_or-set_same, get_or-set_other, slice_index_or, refl, sym, ◌∙◌, ap, subst, inl, inr, arith, ltb-true, ltb-false}
use Rattle.std.proofs.lemmas.Bool.{cases_eq}
use Rattle.std.proofs.lemmas.Nat.{mul-add-lt, same_from_place}
use Rattle.in_cover.specs.declared.table.RuleNo.{RuleNo}
use Rattle.in_cover.specs.Covering.{Sets, SetsBoth}
use Rattle.in_cover.specs.Table.{Cells, rule_at}

abbrev pub square : ℕ → List (Option RuleNo) → Cells
square n cells = record { size = n; cells = cells }

-- within the table, a cell is read
inside_by : (n c d : ℕ) (cells : List (Option RuleNo)) (a b : Bool) → nat_lt c n ≡ a → nat_lt d n ≡ b → c < n → d < n → (if a && b then slice_index_or cells (c * n + d) None else None) ≡ slice_index_or cells (c * n + d) None
inside_by n c d cells true true p q lt lt' = refl
inside_by n c d cells false b p q lt lt' = absurd (omega (arith, ltb-false c n p, lt))
inside_by n c d cells true false p q lt lt' = absurd (omega (arith, ltb-false d n q, lt'))

pub inside : (n c d : ℕ) (cells : List (Option RuleNo)) → c < n → d < n → rule_at (square n cells) c d ≡ slice_index_or cells (c * n + d) None
inside n c d cells lt lt' = inside_by n c d cells (nat_lt c n) (nat_lt d n) refl refl lt lt'

-- if it has no cell, there is no rule
both_by : {X : Type 0} (n c d : ℕ) (o p : Option X) → (c < n → d < n → o ≡ p) → (a b : Bool) → nat_lt c n ≡ a → nat_lt d n ≡ b → (if a && b then o else None) ≡ (if a && b then p else None)
both_by n c d o p same true true e f = same (ltb-true c n e) (ltb-true d n f)
both_by n c d o p same false b e f = refl
both_by n c d o p same true false e f = refl

-- two tables of one size that have one cell at two symbols
pub same_cell : (n c d : ℕ) (cells others : List (Option RuleNo)) → (c < n → d < n → slice_index_or cells (c * n + d) None ≡ slice_index_or others (c * n + d) None) → rule_at (square n cells) c d ≡ rule_at (square n others) c d
same_cell n c d cells others same = both_by n c d (slice_index_or cells (c * n + d) None) (slice_index_or others (c * n + d) None) same (nat_lt c n) (nat_lt d n) refl refl

pub sets : (n c d : ℕ) (cells : List (Option RuleNo)) (k : RuleNo) → length cells ≡ n * n → c < n → d < n → Sets (square n cells) c d k (square n (set cells (c * n + d) (Some k)))
sets n c d cells k is lt lt' = record {
  size = refl;
  here = inside n c d (set cells (c * n + d) (Some k)) lt lt' ∙ get_or-set_same cells (c * n + d) (Some k) None (omega (arith, is, mul-add-lt c n d n lt lt'));
  elsewhere = λ x y apart. same_cell n x y (set cells (c * n + d) (Some k)) cells
      (λ in_x in_y. get_or-set_other cells (c * n + d) (x * n + y) (Some k) None (λ e. apart (same_from_place x y c d n in_y lt' e)));
}

-- the same, if the cell was found and written
pub sets_cell : (table : Cells) (n c d cell : ℕ) (cells written : List (Option RuleNo)) (k : RuleNo) → square n cells ≡ table → length cells ≡ n * n → c < table.size → d < table.size → cell ≡ c * table.size + d →
    written ≡ set cells cell (Some k) → Sets table c d k (square n written)
sets_cell table n c d cell cells written k is long lt lt' number e =
    let size : n ≡ table.size = ap (λ (t : Cells). t.size) is in
    let at : cell ≡ c * n + d = number ∙ ap (λ m. c * m + d) (sym size) in
    let made : Sets (square n cells) c d k (square n (set cells (c * n + d) (Some k))) = sets n c d cells k long (omega (arith, lt, size)) (omega (arith, lt', size)) in
    subst (λ t. Sets t c d k (square n written)) is
    (subst (λ w. Sets (square n cells) c d k (square n w)) (sym (e ∙ ap (λ m. set cells m (Some k)) at)) made)

-- ---- both orders

turned_by : (mid new : Cells) (c d : ℕ) (k : RuleNo) → rule_at mid c d ≡ Some k → Sets mid d c k new → (c ≡ d) ⊎ (c ≡ d → ⊥) → rule_at new c d ≡ Some k
turned_by mid new c d k is other (inl same) = subst (λ x. rule_at new x d ≡ Some k) (sym same) (subst (λ x. rule_at new d x ≡ Some k) same other.here)
turned_by mid new c d k is other (inr apart) = other.elsewhere c d (λ both. apart both.0) ∙ is

pub sets_both : (old mid new : Cells) (c d : ℕ) (k : RuleNo) → Sets old c d k mid → Sets mid d c k new → SetsBoth old c d k new
sets_both old mid new c d k one other = record {
  size = other.size ∙ one.size;
  here = turned_by mid new c d k one.here other (cases_eq c d);
  turned = other.here;
  elsewhere = λ x y apart turned. other.elsewhere x y turned ∙ one.elsewhere x y apart;
}
