-- Leases of cells of one arena, in lists.
use Rattle.std.specs.Prelude.{◌≡◌, ◌≤◌, ◌+◌, ◌==◌, ℕ, List, [], ◌∷◌, ◌++◌, map, length, slice_set, count_by, All, Some}
use Rattle.std.specs.List.Sorted.{IsPermutation}
use Rattle.in_arena.specs.Arenas.{ArenaView, LeaseView, IsOf, Leases, changed, state_at, free_of, written}
use Rattle.in_arena.specs.States.{State, Vacant, Leased}
use Rattle.in_arena.specs.declared.content.CellClass.{CellClass}

-- the number of times that this cell's number is in the list
abbrev pub times : ℕ → List ℕ → ℕ
times n ns = count_by (λ m. m == n) ns

abbrev pub AreOnce : List ℕ → Type 0
AreOnce ns = (n : ℕ) → times n ns ≤ 1

abbrev pub numbers : List LeaseView → List ℕ
numbers ls = map (λ l. l.number) ls

-- the same leases without content
abbrev pub cells_of : List LeaseView → List LeaseView
cells_of ls = map (λ l. written l Vacant) ls

-- they are leases of the same cells, in any order
abbrev pub SameCells : List LeaseView → List LeaseView → Type 0
SameCells ls ms = IsPermutation (cells_of ls) (cells_of ms)

-- the list with this state at each of these places
abbrev pub all_set : List State → List ℕ → State → List State
all_set xs [] x = xs
all_set xs (n ∷ ns) x = all_set (slice_set xs n x) ns x

-- the arena with each of these cells in that state
abbrev pub with_all : ArenaView → List ℕ → State → ArenaView
with_all a ns x = record { memory = a.memory; cells = a.cells; states = all_set a.states ns x }

abbrev pub put_all : List State → List LeaseView → List State
put_all xs [] = xs
put_all xs (l ∷ ls) = put_all (slice_set xs l.number l.state) ls

-- the arena with the content of each lease in its cell
abbrev pub with_put : ArenaView → List LeaseView → ArenaView
with_put a ls = record { memory = a.memory; cells = a.cells; states = put_all a.states ls }

-- leases of different cells of this arena
pub record AreOf (a : ArenaView) (ls : List LeaseView) : Type 0 where
  pub each : All (λ l. IsOf l a) ls
  pub once : AreOnce (numbers ls)

-- the second arena is the first with the cells of these leases on lease, which were free
pub record Lends (a b : ArenaView) (ls : List LeaseView) : Type 0 where
  pub arena : b ≡ with_all a (numbers ls) Leased
  pub free : All (λ n. state_at a n ≡ Vacant) (numbers ls)
  pub of : AreOf b ls

-- `count` more leases of cells of this class; no other class has fewer free cells
pub record LendsMore (old : List LeaseView) (a : ArenaView) (class : CellClass) (count : ℕ) (new : List LeaseView) (b : ArenaView) : Type 0 where
  pub more : List LeaseView
  pub list : new ≡ old ++ more
  pub long : length more ≡ count
  pub of_class : All (λ l. l.class ≡ class) more
  pub lends : Lends a b more
  pub free : free_of b class + count ≡ free_of a class
  pub others : (c : CellClass) → (c ≡ class → ⊥) → free_of b c ≡ free_of a c

-- ---- consequences

-- a lease is a lending of one
abbrev pub LeaseLends : Type 0
LeaseLends = (a b : ArenaView) (c : CellClass) (l : LeaseView) → Leases a c (Some l) b → Lends a b (l ∷ [])

-- two lendings, one after the other, are one lending of both lists
abbrev pub LendingsJoin : Type 0
LendingsJoin = (a b c : ArenaView) (ls ms : List LeaseView) → Lends a b ls → Lends b c ms → Lends a c (ls ++ ms)

-- once all leases are given back, the arena is as before
abbrev pub LendingGoesBack : Type 0
LendingGoesBack = (a b : ArenaView) (ls : List LeaseView) → Lends a b ls → with_all b (numbers ls) Vacant ≡ a

-- the other leases stay leases of the arena if the cell of one changes in any way
abbrev pub OthersStay : Type 0
OthersStay = (a : ArenaView) (ls : List LeaseView) (l : LeaseView) (x : State) → AreOf a (ls ++ l ∷ []) → AreOf (changed a l.number x) ls
