-- The view of a reducer, and the invariant of its fields.
use Rattle.std.specs.Prelude.{◌≡◌, ◌+◌, ◌*◌, ◌≤◌, ◌<◌, ℕ, false, List, [], length, map, Some, slice_get, slice_index_or, vec_capacity}
use Rattle.in_arena.specs.Arenas.{ArenaView, NoneLeased}
use Rattle.in_arena.specs.Classes.{all_of}
use Rattle.in_symbols.specs.declared.symbols.PortType.{PortType}
use Rattle.in_net.specs.declared.nets.FreeEnd.{FreeEnd}
use Rattle.in_net.specs.declared.nets.Point.TheVariants.{Free}
use Rattle.in_syntax.specs.TextLimits.{most_member_agents}
use Rattle.in_check.specs.Programs.{Program}
use Rattle.in_compile.specs.Templates.{TemplateParts}
use Rattle.in_reducer.specs.declared.body.Body.{Body}
use Rattle.in_reducer.specs.declared.body.OwnEnd.{OwnEnd}
use Rattle.in_reducer.specs.declared.body.OwnEnd.TheVariants.{Named, Cut}
use Rattle.in_reducer.specs.declared.tools.Tools.{Tools}
use Rattle.in_reducer.specs.Limiting.{AreAllowed}
use Rattle.in_reducer.specs.Machines.{MachineParts}
use Rattle.in_compile.specs.Putting.{IsPut}
use Rattle.in_reducer.specs.Placed.{IsNoneOf}
use Rattle.in_reducer.specs.Reducers.{IsReducer}
use Rattle.in_reducer.specs.Standing.{agents_in, at_rest, leading_to, vacant_in, IsNetIn}
use Rattle.in_reducer.specs.Steps.{HasRoomAt}
use Rattle.in_reducer.specs.Templates.{IsTemplateAt}

-- ---- free ends

abbrev cut_end : PortType → FreeEnd
cut_end kind = record { name = []; kind = kind; end = Free 0 }

-- the name and type of a free end, without its partner
abbrev pub declared_as : Program → OwnEnd → FreeEnd
declared_as p (Named k) = slice_index_or p.net.free k (cut_end (record { kind = 0; output = false }))
declared_as p (Cut kind) = cut_end kind

abbrev pub own_free : Body → List FreeEnd
own_free r = map (declared_as r.checked.now.program) r.free.items

-- a free end of the program exists
abbrev pub IsOwnEnd : Program → OwnEnd → Type 0
IsOwnEnd p (Named k) = k < length p.net.free
IsOwnEnd p (Cut kind) = Unit {0}

-- ---- the view in contracts

-- a cell that is on lease counts as free
abbrev pub reducer_view : Body → MachineParts
reducer_view r = record {
  program = r.checked.now.program;
  agents = agents_in r.arena;
  free = leading_to (own_free r) r.ends.items;
  queue = r.queue.items;
  vacant = vacant_in (at_rest r.arena);
}

-- ---- the invariant of the fields

-- the most boundary ends that a rule has
abbrev pub most_ends : ℕ
most_ends = 32

-- the most free ends
abbrev pub most_free_ends : ℕ
most_free_ends = 65536

-- the most points of a right member: one for each boundary end and each agent
abbrev pub most_points : ℕ
most_points = most_ends + most_member_agents

-- the tools are of this arena, hold nothing, and have room for `most_member_agents` agents, `most_ends` pairs and all points
pub record AreTools (x : Tools) (a : ArenaView) : Type 0 where
  pub placed : IsNoneOf x.placed.bag a
  pub room : most_member_agents ≤ x.placed.room
  pub made : x.made.items ≡ []
  pub made_room : most_ends ≤ vec_capacity x.made
  pub points : most_points ≤ length x.points.items

-- the invariant of the net, for any tools
pub record KeepsNet (r : Body) : Type 0 where
  pub reducer : IsReducer (reducer_view r)
  pub net : IsNetIn r.checked.now.program.tables (at_rest r.arena)
  pub few : AreAllowed r.arena.cells
  pub few_free : length r.free.items ≤ most_free_ends
  pub free : (k : ℕ) (e : OwnEnd) → slice_get r.free.items k ≡ Some e → IsOwnEnd r.checked.now.program e
  pub ends : length r.free.items + most_ends + most_ends ≤ length r.ends.items
  pub queue : all_of r.arena.cells + 2 * most_ends ≤ 2 * r.queue.room + 1

-- .. which holds also while cells are on lease
pub record KeepsAll (r : Body) : Type 0 where
  pub net : KeepsNet r
  pub tools : AreTools r.tools r.arena

-- .. and between two calls no cell is on lease
pub record IsKept (r : Body) : Type 0 where
  pub all : KeepsAll r
  pub none : NoneLeased r.arena

-- ---- while a right member is beside its pair

-- the body with this arena
abbrev pub over : ArenaView → Body → Body
over a r = record { checked = r.checked; arena = a; free = r.free; ends = r.ends; queue = r.queue; tools = r.tools }

-- with that arena the body was a reducer, with room for this pair; now the right member of the pair's template is beside it
pub record StandsBeside (r : Body) (a : ArenaView) (i : ℕ) (p : TemplateParts) : Type 0 where
  pub net : KeepsNet (over a r)
  pub at : IsTemplateAt (reducer_view (over a r)) i p
  pub room : HasRoomAt (reducer_view (over a r)) i
  pub put : IsPut p.member r.tools.placed.cells a r.arena

-- the tools are as before, except for the list of new pairs, which is empty and has the same room
pub record AreAsBefore (old new : Tools) : Type 0 where
  pub placed : new.placed ≡ old.placed
  pub points : new.points ≡ old.points
  pub made : new.made.items ≡ []
  pub made_room : vec_capacity new.made ≡ vec_capacity old.made
