-- The invariant of a reducer's fields, at its program's net.
use Rattle.std.proofs.Common.{◌≡◌, ◌≤◌, ◌+◌, ◌*◌, ℕ, Some, List, length, map, take, replicate, slice_get, sym, ap, subst, ◌∙◌, arith}
use Rattle.std.proofs.lemmas.List.{length-map}
use Rattle.in_arena.specs.Arenas.{ArenaView}
use Rattle.in_arena.specs.Classes.{all_of}
use Rattle.in_arena.specs.States.{Vacant, IsLeased}
use Rattle.in_arena.specs.declared.content.CellCounts.{CellCounts}
use Rattle.in_arena.specs.declared.content.CellNo.{CellNo}
use Rattle.in_interaction.specs.Queues.{both}
use Rattle.in_check.specs.Checking.{IsAccepted}
use Rattle.in_check.specs.Programs.{Program}
use Rattle.in_compile.specs.Members.{MemberParts, IsMemberOf}
use Rattle.in_compile.specs.Templates.{TemplatesParts, AreTemplatesOf}
use Rattle.in_net.specs.declared.nets.FreeEnd.{FreeEnd}
use Rattle.in_reducer.specs.declared.body.Body.{Body}
use Rattle.in_reducer.specs.declared.body.OwnEnd.{OwnEnd}
use Rattle.in_reducer.specs.Inside.{AreTools, IsKept, IsOwnEnd, declared_as, most_ends, own_free, reducer_view}
use Rattle.in_reducer.specs.Interacting.{named}
use Rattle.in_reducer.specs.Limiting.{AreAllowed}
use Rattle.in_compile.specs.Putting.{IsPut}
use Rattle.in_reducer.specs.Placed.{IsNoneOf}
use Rattle.in_reducer.specs.Sides.{inner_of}
use Rattle.in_reducer.specs.Standing.{agents_in, at_rest, leading_to, vacant_in}
use Rattle.in_reducer.specs.Starts.{IsStart}
use Rattle.in_reducer.proofs.Starts.StartNet.{cells_after, few_joints, is_start, net_in_cells, none_after, own_many}
use Rattle.in_reducer.proofs.Starts.Started.{start_reducer}
use Rattle.in_syntax.specs.declared.text_limits.TextLimits.{TextLimits}

-- the start that is read is the member of the program's net
pub member_is : (p : Program) (ts : TemplatesParts) (m : MemberParts) → AreTemplatesOf p ts → m ≡ ts.start → IsMemberOf p.tables p.net m
member_is p ts m of e = subst (IsMemberOf p.tables p.net) (sym e) of.start

-- the net of an accepted program is put into cells that were all free, and the reducer's lists are those of this net
pub record HoldsStart (limits : TextLimits) (text : List ℕ) (x : Body) (ts : TemplatesParts) (m : MemberParts) (cells : CellCounts) (a : ArenaView) (ns : List CellNo) : Type 0 where
  -- the check accepts the program's text
  pub accepted : IsAccepted limits text x.checked.now.program
  -- these are the program's templates
  pub templates : AreTemplatesOf x.checked.now.program ts
  -- this is the member for its net
  pub start : m ≡ ts.start
  -- a reducer can have so many cells of each class
  pub few : AreAllowed cells
  -- the arena has so many
  pub same : a.cells ≡ cells
  -- all of them were free
  pub empty : a.states ≡ replicate (all_of cells) Vacant
  -- each agent is put into its own cell
  pub put : IsPut m ns a x.arena
  -- the first ends lead where the free ends do
  pub first : take (length m.joints) x.ends.items ≡ map (inner_of ns 0) m.joints
  -- there is room for both sides of each boundary end of a right member
  pub long : length m.joints + most_ends + most_ends ≤ length x.ends.items
  -- the queue has the net's active pairs
  pub queue : x.queue.items ≡ map (both (named ns)) m.pairs
  -- the free ends are those of the program's net
  pub free : own_free x ≡ x.checked.now.program.net.free

module _ (limits : TextLimits) (text : List ℕ) (x : Body) (ts : TemplatesParts) (m : MemberParts) (cells : CellCounts) (a : ArenaView) (ns : List CellNo) (given : HoldsStart limits text x ts m cells a ns) where
  open given use {accepted, templates, start, few, same, empty, put, first, long, queue, free}

  member : IsMemberOf x.checked.now.program.tables x.checked.now.program.net m
  member = member_is x.checked.now.program ts m templates start

  pub starts : IsStart x.checked.now.program cells (reducer_view x)
  starts = subst (λ (fs : List FreeEnd). IsStart x.checked.now.program cells (record { program = x.checked.now.program; agents = agents_in x.arena; free = leading_to fs x.ends.items; queue = x.queue.items; vacant = vacant_in (at_rest x.arena) })) (sym free)
      (is_start limits text x.checked.now.program accepted m member ns a x.arena cells same empty put x.ends.items first long x.queue.items queue)

  module _ (room : all_of cells + 2 * most_ends ≤ 2 * x.queue.room + 1) (tools : AreTools x.tools a) where
    still_none : (b : ArenaView) → IsNoneOf b a → IsNoneOf b x.arena
    still_none b h = (
      record {
        memory = h.0.memory ∙ sym put.memory;
        cells = h.0.cells ∙ sym put.cells;
        leased = λ n here. absurd (here (subst IsLeased (sym (h.1 n)) tt));
      },
      h.1,
    )

    tools_there : AreTools x.tools x.arena
    tools_there = record {
      placed = still_none x.tools.placed.bag tools.placed;
      room = tools.room;
      made = tools.made;
      made_room = tools.made_room;
      points = tools.points;
    }

    cells_there : x.arena.cells ≡ cells
    cells_there = cells_after limits text x.checked.now.program accepted m member ns a x.arena cells same empty put

    -- as many free ends as the program has
    free_many : length x.free.items ≡ length m.joints
    free_many = sym (length-map x.free.items (declared_as x.checked.now.program)) ∙ ap length free ∙ sym (own_many limits text x.checked.now.program accepted m member)

    pub is_kept : ((k : ℕ) (e : OwnEnd) → slice_get x.free.items k ≡ Some e → IsOwnEnd x.checked.now.program e) → IsKept x
    is_kept own = record {
      all = record {
        net = record {
          reducer = start_reducer limits text x.checked.now.program accepted cells few (reducer_view x) starts;
          net = net_in_cells limits text x.checked.now.program accepted m member ns a x.arena cells same empty put;
          few = subst AreAllowed (sym cells_there) few;
          few_free = (let e = free_many in let l = few_joints limits text x.checked.now.program accepted m member in omega (arith, e, l));
          free = own;
          ends = (let e = free_many in omega (arith, e, long));
          queue = (let e = ap all_of cells_there in omega (arith, e, room));
        };
        tools = tools_there;
      };
      none = none_after limits text x.checked.now.program accepted m member ns a x.arena cells same empty put;
    }
