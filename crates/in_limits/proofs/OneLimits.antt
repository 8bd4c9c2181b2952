-- Numbers have one answer.
use Rattle.std.proofs.Common.{◌≡◌, ℕ, ◌≤◌, Some, None, refl, sym, ◌∙◌, ap, subst}
use Rattle.std.proofs.Math.Bridge.{le_prop}
use Rattle.in_arena.specs.declared.content.CellCounts.{CellCounts}
use Rattle.in_limits.specs.Laws.{LimitsAreOne, LimitsOfCellsAreOne}
use Rattle.in_limits.specs.Limiting.{AreAllowed, HasLeast, most_interactions, most_workers}
use Rattle.in_limits.specs.declared.limits.Limits.{Limits}

abbrev limits_of : (workers limit : ℕ) (cells : CellCounts) → 1 ≤ workers → workers ≤ most_workers → limit ≤ most_interactions → HasLeast cells → AreAllowed cells → Limits
limits_of workers limit cells some few in_range least most =
    record { workers = workers; limit = limit; cells = cells; some_worker = some; few_workers = few; limit_in_range = in_range; least = least; most = most }

-- limits of the same numbers are the same
pub one_limits : (l k : Limits) → l.workers ≡ k.workers → l.limit ≡ k.limit → l.cells ≡ k.cells → l ≡ k
one_limits l k as_many same alike =
    subst (λ (w : ℕ). (x : 1 ≤ w) (y : w ≤ most_workers) → l ≡ limits_of w k.limit k.cells x y k.limit_in_range k.least k.most) as_many
    (λ x y. subst (λ (n : ℕ). (a : n ≤ most_interactions) → l ≡ limits_of l.workers n k.cells x y a k.least k.most) same
    (λ a. subst (λ (m : CellCounts). (b : HasLeast m) (d : AreAllowed m) → l ≡ limits_of l.workers l.limit m x y a b d) alike
    (λ b d. λ i. limits_of l.workers l.limit l.cells (le_prop l.some_worker x i) (le_prop l.few_workers y i) (le_prop l.limit_in_range a i)
    (le_prop l.least.0 b.0 i, le_prop l.least.1 b.1 i, le_prop l.least.2 b.2 i) (record { small = le_prop l.most.small d.small i; large = le_prop l.most.large d.large i; wide = le_prop l.most.wide d.wide i }))
    k.least k.most) k.limit_in_range) k.some_worker k.few_workers

pub limits_are_one : LimitsAreOne
limits_are_one workers limit cells None None h g = refl
limits_are_one workers limit cells None (Some k) h g = absurd (h g.0)
limits_are_one workers limit cells (Some l) None h g = absurd (g h.0)
limits_are_one workers limit cells (Some l) (Some k) h g = ap (λ (z : Limits). Some z) (one_limits l k (h.1 ∙ sym g.1) (h.2 ∙ sym g.2) (h.3 ∙ sym g.3))

pub limits_of_cells_are_one : LimitsOfCellsAreOne
limits_of_cells_are_one workers limit cells None None h g = refl
limits_of_cells_are_one workers limit cells None (Some k) h g = absurd (h g.0)
limits_of_cells_are_one workers limit cells (Some l) None h g = absurd (g h.0)
limits_of_cells_are_one workers limit cells (Some l) (Some k) h g = ap (λ (z : Limits). Some z) (one_limits l k (h.1 ∙ sym g.1) (h.2 ∙ sym g.2) (h.3 ∙ sym g.3))
