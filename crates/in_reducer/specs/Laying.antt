-- Cells for a new net, and a program's net that is laid in them. No contract of a public call speaks of it. This project's own choice.
use Rattle.std.specs.Prelude.{◌≡◌, ◌+◌, ◌*◌, ◌<◌, ◌≤◌, ℕ, List, [], length, map, replicate, take, Some, slice_get}
use Rattle.in_arena.specs.Arenas.{free_of}
use Rattle.in_arena.specs.Classes.{all_of}
use Rattle.in_arena.specs.States.{Vacant}
use Rattle.in_arena.specs.declared.content.CellCounts.{CellCounts}
use Rattle.in_arena.specs.declared.content.CellNo.{CellNo}
use Rattle.in_arena.specs.declared.content.End.{End}
use Rattle.in_compile.specs.Cells.{count_of, IsEnough}
use Rattle.in_compile.specs.Members.{MemberParts}
use Rattle.in_compile.specs.declared.joints.Joint.{Joint}
use Rattle.in_interaction.specs.Queues.{both}
use Rattle.in_reducer.specs.declared.fresh.Fresh.{Fresh}
use Rattle.in_reducer.specs.Inside.{AreTools, most_ends}
use Rattle.in_reducer.specs.Interacting.{named}
use Rattle.in_compile.specs.Putting.{IsPut}
use Rattle.in_reducer.specs.Sides.{inner_of, HasJoint}
use Rattle.in_syntax.specs.TextLimits.{most_free}

-- that many free cells of each class and no other, tools of this arena, and an empty queue with room for all pairs and for those that an interaction makes
pub record IsFresh (size : CellCounts) (f : Fresh) : Type 0 where
  pub cells : f.arena.cells ≡ size
  pub empty : f.arena.states ≡ replicate (all_of size) Vacant
  pub tools : AreTools f.tools f.arena
  pub queue : f.queue.items ≡ []
  pub queue_room : all_of size + 2 * most_ends ≤ 2 * f.queue.room + 1

-- there is room for the member, which has no more boundary ends than a net has free ends; its joints and pairs are of its own agents
pub record CanLay (m : MemberParts) (f : Fresh) : Type 0 where
  pub free : IsEnough (count_of m.need) (free_of f.arena)
  pub few : length m.joints ≤ most_free
  pub joints : (ns : List CellNo) → length ns ≡ length m.agents → (e : ℕ) (j : Joint) → slice_get m.joints e ≡ Some j → HasJoint ns j
  pub pairs : (ns : List CellNo) → length ns ≡ length m.agents → (k : ℕ) (q : ℕ × ℕ) → slice_get m.pairs k ≡ Some q → (q.0 < length ns) × (q.1 < length ns)
  pub queue : f.queue.items ≡ []
  pub room : length m.pairs ≤ f.queue.room

-- the member is in cells that were free, its pairs are queued, and the first ends lead where its boundary ends do
pub record IsLaid (m : MemberParts) (old new : Fresh) (ends : List End) : Type 0 where
  pub names : List CellNo
  pub put : IsPut m names old.arena new.arena
  pub first : take (length m.joints) ends ≡ map (inner_of names 0) m.joints
  pub long : length m.joints + most_ends + most_ends ≤ length ends
  pub queue : new.queue.items ≡ map (both (named names)) m.pairs
  pub room : new.queue.room ≡ old.queue.room
  pub tools : new.tools ≡ old.tools
