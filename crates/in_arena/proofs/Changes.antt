-- An arena's counts and leases after a change of one cell.
use Rattle.std.proofs.Common.{◌≡◌, ℕ, ◌+◌, ◌-◌, ◌<◌, ◌≤◌, List, take, drop, length, set, get_or, count_by, sym, ap, ◌∙◌, subst, ⊎_elim, arith, get_or-set_other}
use Rattle.std.proofs.lemmas.Bool.{cases_lt}
use Rattle.std.proofs.lemmas.List.{drop-set-add, drop-set-lt, take-set-le, get_or-take, get_or-drop, length-take, length-drop, set-get_or}
use Rattle.std.proofs.lemmas.List.Sums.{sum_by-set}
use Rattle.in_arena.specs.Arenas.{ArenaView, BeginsCell, IsOf, changed, free_of, part_of, state_at}
use Rattle.in_arena.specs.Changes.{AllButOneStay, HasAllCells, OneFewerIsFree, one_if_free, FreeCountsChange, LeaseTakesOne, LeasesStay, LeasesDiffer}
use Rattle.in_arena.specs.Classes.{IsNumberOf, amount, first_of}
use Rattle.in_arena.specs.States.{State, Leased, IsLeased, is_vacant}
use Rattle.in_arena.specs.declared.content.CellClass.{CellClass}
use Rattle.in_arena.proofs.Classes.{class_within, numbers_apart}
use Rattle.in_arena.proofs.FreeLists.{take_set}

pub number_inside : (a : ArenaView) (n : ℕ) (c : CellClass) → HasAllCells a → IsNumberOf a.cells c n → n < length a.states
number_inside a n c all is = let lt = is.1 in omega (arith, all, lt, class_within a.cells c)

module _ (a : ArenaView) (n : ℕ) (x : State) where
  abbrev new : List State
  new = set a.states n x

  -- the class of the cell
  part_set : (c : CellClass) → IsNumberOf a.cells c n → part_of (changed a n x) c ≡ set (part_of a c) (n - first_of a.cells c) x
  part_set c is =
      let start = first_of a.cells c in let i = n - start in let from = is.0 in
      let at : n ≡ start + i = omega (arith, from) in
      ap (λ k. take (amount a.cells c) (drop start (set a.states k x))) at ∙ ap (take (amount a.cells c)) (drop-set-add start a.states i x) ∙ take_set (amount a.cells c) (drop start a.states) i x

  part_at : (c : CellClass) → IsNumberOf a.cells c n → get_or (part_of a c) (n - first_of a.cells c) Leased ≡ state_at a n
  part_at c is =
      let start = first_of a.cells c in let i = n - start in let from = is.0 in let below = is.1 in
      let at : start + i ≡ n = omega (arith, from) in
      get_or-take (amount a.cells c) (drop start a.states) i Leased (omega (arith, from, below)) ∙ get_or-drop start a.states i Leased ∙ ap (state_at a) at

  part_long : (c : CellClass) → HasAllCells a → length (part_of a c) ≡ amount a.cells c
  part_long c all =
      let start = first_of a.cells c in let first = length-take (amount a.cells c) (drop start a.states) in let rest = length-drop start a.states in
      omega (arith, first, rest, all, class_within a.cells c)

  -- another class than the cell's
  part_other : (c d : CellClass) → IsNumberOf a.cells c n → (d ≡ c → ⊥) → part_of (changed a n x) d ≡ part_of a d
  part_other c d is apart =
      let start = first_of a.cells d in let i = n - start in
      ⊎_elim
      (λ (before : n < start). ap (take (amount a.cells d)) (drop-set-lt start a.states n x before))
      (λ (from : start ≤ n).
      let at : n ≡ start + i = omega (arith, from) in
      let beyond : amount a.cells d ≤ i = ⊎_elim
      (λ (lt : n < first_of a.cells d + amount a.cells d). absurd (apart (numbers_apart a.cells n d c (from, lt) is)))
      (λ ge. omega (arith, from, ge)) (cases_lt n (first_of a.cells d + amount a.cells d))
      in
      ap (λ k. take (amount a.cells d) (drop start (set a.states k x))) at ∙ ap (take (amount a.cells d)) (drop-set-add start a.states i x) ∙ take-set-le (amount a.cells d) (drop start a.states) i x beyond)
      (cases_lt n start)

pub counts_change : FreeCountsChange
counts_change a n c x all is =
    let i = n - first_of a.cells c in let from = is.0 in let below = is.1 in
    let old = ap one_if_free (part_at a n x c is) in
    let sum = sum_by-set one_if_free (part_of a c) i x Leased (omega (arith, part_long a n x c all, from, below)) in (
      omega (arith, ap (count_by is_vacant) (part_set a n x c is), sum, old),
      λ d apart. ap (count_by is_vacant) (part_other a n x c d is apart),
    )

pub lease_takes_one : LeaseTakesOne
lease_takes_one a b c l all made =
    let counts = counts_change a l.number c Leased all made.1 in let was : one_if_free (state_at a l.number) ≡ 1 = ap one_if_free made.2 in let first = counts.0 in (
      omega (arith, first, was, ap (λ v. free_of v c) made.3),
      λ d apart. ap (λ v. free_of v d) made.3 ∙ counts.1 d apart,
    )

pub begun_takes_one : (a b : ArenaView) (c : CellClass) (word places n : ℕ) → HasAllCells a → BeginsCell c word places a n b → OneFewerIsFree c a b
begun_takes_one a b c word places n all begun =
    let counts = counts_change a n c begun.state all begun.at in
    let was : one_if_free (state_at a n) ≡ 1 = ap one_if_free begun.was in
    let none : one_if_free begun.state ≡ 0 = ap one_if_free begun.begun.2 in
    let first = counts.0 in (
      omega (arith, first, was, none, ap (λ v. free_of v c) begun.arena),
      λ d apart. ap (λ v. free_of v d) begun.arena ∙ counts.1 d apart,
    )

-- ---- the other cells

pub others_stay : (a b : ArenaView) (n : ℕ) (x : State) → b ≡ changed a n x → AllButOneStay n a b
others_stay a b n x change m other = ap (λ v. state_at v m) change ∙ get_or-set_other a.states n m x Leased other

-- a change of a cell to its own state changes nothing
pub changed_to_itself : (a : ArenaView) (n : ℕ) → changed a n (state_at a n) ≡ a
changed_to_itself a n = λ i. record { memory = a.memory; cells = a.cells; states = set-get_or a.states n Leased i }

-- ---- a lease stays one of its arena

pub lease_stays : LeasesStay
lease_stays a l n x of other = record { memory = of.memory; cells = of.cells; number = of.number; leased = get_or-set_other a.states n l.number x Leased other ∙ of.leased }

pub leases_differ : LeasesDiffer
leases_differ a b c l m of made =
    let other : l.number ≡ m.number → ⊥ = λ e. subst IsLeased (sym of.leased ∙ ap (state_at a) e ∙ made.2) tt in
    (other, subst (IsOf l) (sym made.3) (lease_stays a l m.number Leased of other))
