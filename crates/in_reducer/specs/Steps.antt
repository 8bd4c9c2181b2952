-- The conditions and the result of an interaction. Lafont 1990: an interaction replaces an active pair by the right member of its rule, and nets
-- are taken up to the names of their agents. Which pair comes first, and cells, are this project's own choice; the numbers of new agents are open.
use Rattle.std.specs.Prelude.{◌≡◌, ℕ, List, ◌++◌, map, Some, slice_get, remove}
use Rattle.in_arena.specs.declared.content.CellClass.{CellClass}
use Rattle.in_net.specs.declared.nets.AgentNo.{AgentNo}
use Rattle.in_net.specs.Rules.{RuleParts}
use Rattle.in_check.specs.Plain.{IsPairAt, IsRuleAt, StepsAs}
use Rattle.in_interaction.specs.Made.{AreMade}
use Rattle.in_interaction.specs.Queues.{agents_at, numbers_of}
use Rattle.in_compile.specs.declared.cells.Need.{Need}
use Rattle.in_compile.specs.Cells.{count_of, IsNeedOf, IsEnough, IsFirstShort}
use Rattle.in_reducer.specs.Machines.{MachineParts, KeepsCellCounts, parts_of, plain_of}

-- ---- the cells for an interaction

-- the agents of each class in the right member of the rule of that pair, which must be free while the pair is still there
pub record NeedsAt (m : MachineParts) (i : ℕ) (need : Need) : Type 0 where
  pub pair : ℕ × ℕ
  pub stands : slice_get m.queue i ≡ Some pair
  pub number : ℕ
  pub rule : RuleParts
  pub is_rule : IsRuleAt (plain_of m) (agents_at pair).0 (agents_at pair).1 number rule
  pub is_need : IsNeedOf m.program.tables rule.member.cells need

-- the cells that the pair needs are free
abbrev pub HasRoomAt : MachineParts → ℕ → Type 0
HasRoomAt m i = (need : Need) × NeedsAt m i need × IsEnough (count_of need) (count_of m.vacant)

-- this is the first class that has fewer free cells than the pair needs
abbrev pub IsShortAt : MachineParts → ℕ → CellClass → ℕ → ℕ → Type 0
IsShortAt m i c need free = (n : Need) × NeedsAt m i n × IsFirstShort (count_of n) (count_of m.vacant) c × (need ≡ count_of n c) × (free ≡ count_of m.vacant c)

-- ---- one interaction

-- the interaction of the active pair of that number by its rule, if its cells are free: the new agents have any numbers that the net doesn't have.
-- The pair leaves the queue, and the new pairs come last. Each class has as many cells after as before
pub record StepsAt (m : MachineParts) (i : ℕ) (after : MachineParts) : Type 0 where
  pub pair : ℕ × ℕ
  pub stands : slice_get m.queue i ≡ Some pair
  pub active : IsPairAt (plain_of m) (agents_at pair).0 (agents_at pair).1
  pub room : HasRoomAt m i
  pub name : ℕ → ℕ
  pub step : StepsAs (plain_of m) (agents_at pair).0 (agents_at pair).1 name (plain_of after)
  pub made : List (AgentNo × AgentNo)
  pub new : AreMade m.program.tables (parts_of m) step.rule (agents_at pair).0 (agents_at pair).1 name made
  pub queue : after.queue ≡ remove m.queue i ++ map numbers_of made
  pub cells : KeepsCellCounts m after
