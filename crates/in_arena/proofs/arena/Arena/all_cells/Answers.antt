use Rattle.std.proofs.Common.{ap, length, arith}
use Rattle.in_arena.proofs.Inside.{arena_all}
use Rattle.in_arena.proofs.arena.Arena.all_cells.Goals as goal

pub returns : goal.returns
returns c = let l = arena_all c.self.inside c.self.invariant in let e = ap (λ v. length v.states) c.self.view_is in omega (arith, l, e)
