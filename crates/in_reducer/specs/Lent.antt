-- Cells that were lent to the workers of a round. This project's own choice.
use Rattle.std.specs.Prelude.{◌≡◌, ◌<◌, ◌↔◌, ℕ, length}
use Rattle.in_arena.specs.Arenas.{ArenaView, state_at}
use Rattle.in_arena.specs.States.{Leased, IsLeased}

-- the cells on lease are those of before, without this bag's cells
pub record AreSettled (bag a b : ArenaView) : Type 0 where
  pub memory : b.memory ≡ a.memory
  pub cells : b.cells ≡ a.cells
  pub many : length b.states ≡ length a.states
  pub stay : (n : ℕ) → IsLeased (state_at a n) → state_at bag n ≡ Leased → IsLeased (state_at b n)
  pub none : (n : ℕ) → n < length a.states → IsLeased (state_at b n) → IsLeased (state_at a n) × (state_at bag n ≡ Leased)

-- the arena before and the bag determine which cells stay on lease
abbrev pub SettledLeasesAreOne : Type 0
SettledLeasesAreOne = (bag a b c : ArenaView) → AreSettled bag a b → AreSettled bag a c →
    (b.memory ≡ c.memory) × (b.cells ≡ c.cells) × ((n : ℕ) → n < length a.states → IsLeased (state_at b n) ↔ IsLeased (state_at c n))
