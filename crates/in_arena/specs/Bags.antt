-- The view of a bag of leased cells, which has the form of an arena's view: a cell that isn't in the bag has another owner, so it is leased; a cell
-- of the bag without content is vacant.
use Rattle.std.specs.Prelude.{◌≡◌, ℕ, replicate, Option, Some, None}
use Rattle.in_arena.specs.Arenas.{ArenaView, changed, free_of, state_at}
use Rattle.in_arena.specs.Classes.{Holds, IsNumberOf, all_of}
use Rattle.in_arena.specs.States.{Vacant, Leased, IsLeased}
use Rattle.in_arena.specs.declared.content.CellClass.{CellClass}
use Rattle.in_arena.specs.declared.content.CellCounts.{CellCounts}
use Rattle.in_arena.specs.declared.content.CellNo.{CellNo}

-- a bag of this arena that has no cell
abbrev pub empty_bag : ArenaView → ArenaView
empty_bag a = record { memory = a.memory; cells = a.cells; states = replicate (all_of a.cells) Leased }

-- the cell of this number is in the bag
abbrev pub IsInBag : ArenaView → ℕ → Type 0
IsInBag b n = IsLeased (state_at b n) → ⊥

-- the bag has cells of this arena, which are leased there
pub record IsBagOf (b a : ArenaView) : Type 0 where
  pub memory : b.memory ≡ a.memory
  pub cells : b.cells ≡ a.cells
  pub leased : (n : ℕ) → IsInBag b n → state_at a n ≡ Leased

-- no cell is in both
abbrev pub BagsAreApart : ArenaView → ArenaView → Type 0
BagsAreApart b d = (n : ℕ) → IsInBag b n → state_at d n ≡ Leased

-- the bags are of one arena
abbrev pub AreOfOne : ArenaView → ArenaView → Type 0
AreOfOne b d = (d.memory ≡ b.memory) × (d.cells ≡ b.cells)

-- in an arena with that many cells of each class, the cell of number n is for `ends` ends
abbrev pub IsFor : CellCounts → ℕ → ℕ → Type 0
IsFor cells n ends = (c : CellClass) × IsNumberOf cells c n × Holds c ends

-- a cell of this class that was free is leased and in the bag, without content; or none was free
abbrev pub LeasesTo : ArenaView → CellClass → ArenaView → Option CellNo → ArenaView → ArenaView → Type 0
LeasesTo a c b None a' b' = (free_of a c ≡ 0) × (a' ≡ a) × (b' ≡ b)
LeasesTo a c b (Some n) a' b' = IsNumberOf a.cells c n.0 × (state_at a n.0 ≡ Vacant) × (a' ≡ changed a n.0 Leased) × (b' ≡ changed b n.0 Vacant) × IsBagOf b' a' × (state_at b' n.0 ≡ Vacant)
