use Rattle.std.proofs.Common.{ap, subst}
use Rattle.in_arena.specs.Changes.{HasAllCells}
use Rattle.in_arena.proofs.Inside.{arena_all}
use Rattle.in_arena.proofs.arena.Arena.cells.Goals as goal

pub returns : goal.returns
returns c = (ap (λ v. v.cells) c.self.view_is, subst HasAllCells c.self.view_is (arena_all c.self.inside c.self.invariant), c.self.invariant.few)
