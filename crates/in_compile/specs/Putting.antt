-- Members that are put into an arena at once. An agent may get any cell of its class. That boundary ends hold their numbers is this project's own
-- choice.
use Rattle.std.specs.Prelude.{◌≡◌, ◌≤◌, ◌<◌, ◌+◌, ℕ, cond, List, length, take, count_by, Some, None, slice_get, slice_index_or}
use Rattle.in_arena.specs.Arenas.{ArenaView, changed, free_of, state_at}
use Rattle.in_arena.specs.Changes.{AreListedOnce, UnlistedStay}
use Rattle.in_arena.specs.Classes.{IsNumberOf}
use Rattle.in_arena.specs.States.{State, Vacant, IsBegun, word_of}
use Rattle.in_arena.specs.declared.content.CellClass.{CellClass}
use Rattle.in_arena.specs.declared.content.CellNo.{CellNo}
use Rattle.in_arena.specs.declared.content.End.{End}
use Rattle.in_arena.specs.declared.content.End.TheVariants.{Cell}
use Rattle.in_compile.specs.Members.{AgentParts, MemberParts, has_class}
use Rattle.in_compile.specs.Placing.{content}

-- each agent is in its own cell, of its class, which held no agent; all other cells are as they were
pub record IsPut (m : MemberParts) (ns : List CellNo) (old new : ArenaView) : Type 0 where
  pub count : length ns ≡ length m.agents
  pub each : (k : ℕ) (a : AgentParts) (n : CellNo) → slice_get m.agents k ≡ Some a → slice_get ns k ≡ Some n
      → IsNumberOf new.cells a.class n.0 × (word_of (state_at old n.0) ≡ None) × (state_at new n.0 ≡ content ns a)
  pub once : AreListedOnce ns
  pub others : UnlistedStay ns old new
  pub memory : new.memory ≡ old.memory
  pub cells : new.cells ≡ old.cells
  pub many : length new.states ≡ length old.states

-- ---- the steps, which no contract of a public call names

-- a cell of the agent's class, which was free, is live with its symbol; the ends at its places are open
pub record BeginsAgent (a : AgentParts) (old : ArenaView) (n : ℕ) (new : ArenaView) : Type 0 where
  pub at : IsNumberOf old.cells a.class n
  pub was : state_at old n ≡ Vacant
  pub state : State
  pub begun : IsBegun a.symbol.0 (length a.ends) state
  pub arena : new ≡ changed old n state
  pub left : (d : CellClass) → free_of new d + cond (has_class d a) 1 0 ≡ free_of old d

-- the first x agents have their cells
pub record AreBegunBelow (m : MemberParts) (old : ArenaView) (x : ℕ) (now : ArenaView) (ns : List CellNo) : Type 0 where
  pub count : length ns ≡ x
  pub each : (k : ℕ) (a : AgentParts) (n : CellNo) → slice_get m.agents k ≡ Some a → slice_get ns k ≡ Some n
      → IsNumberOf old.cells a.class n.0 × (state_at old n.0 ≡ Vacant) × IsBegun a.symbol.0 (length a.ends) (state_at now n.0)
  pub once : AreListedOnce ns
  pub others : UnlistedStay ns old now
  pub free : (d : CellClass) → free_of now d + count_by (has_class d) (take x m.agents) ≡ free_of old d
  pub memory : now.memory ≡ old.memory
  pub cells : now.cells ≡ old.cells
  pub many : length now.states ≡ length old.states

-- the ends of the first x agents are written
pub record ArePutBelow (m : MemberParts) (ns : List CellNo) (begun : ArenaView) (x : ℕ) (now : ArenaView) : Type 0 where
  pub each : (k : ℕ) (a : AgentParts) (n : CellNo) → k < x → slice_get m.agents k ≡ Some a → slice_get ns k ≡ Some n → state_at now n.0 ≡ content ns a
  pub rest : (k : ℕ) (n : CellNo) → x ≤ k → slice_get ns k ≡ Some n → state_at now n.0 ≡ state_at begun n.0
  pub others : UnlistedStay ns begun now
  pub memory : now.memory ≡ begun.memory
  pub cells : now.cells ≡ begun.cells
  pub many : length now.states ≡ length begun.states

-- the principal ports of these cells are at the points from `first` on
abbrev pub AreAtPoints : ℕ → List CellNo → List End → Type 0
AreAtPoints first ns points = (k : ℕ) → k < length ns → slice_get points (first + k) ≡ Some (Cell (slice_index_or ns k (record { 0 = 0 })) 0)

-- .. of the cells that the first x agents have
abbrev pub HasBegunTo : MemberParts → ArenaView → ℕ → ArenaView → ℕ → List End → Type 0
HasBegunTo m old x now first points = (ns : List CellNo) × AreBegunBelow m old x now ns × AreAtPoints first ns points
