use Rattle.std.proofs.Common.{ap, ◌∙◌}
use Rattle.in_arena.specs.Arenas.{free_of}
use Rattle.in_arena.specs.declared.free_list.FreeList.{FreeList}
use Rattle.in_arena.proofs.Inside.{free_is_count}
use Rattle.in_arena.proofs.arena.Arena.free_count.Goals as goal

pub returns : goal.returns
returns c = ap (λ (l : FreeList). l.free) c.of.ensures ∙ free_is_count c.self.inside c.self.invariant c.args.class ∙ ap (λ a. free_of a c.args.class) c.self.view_is
