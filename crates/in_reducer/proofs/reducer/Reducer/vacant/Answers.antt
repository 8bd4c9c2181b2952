use Rattle.std.proofs.Common.{sym, ap, ◌∙◌}
use Rattle.in_arena.specs.Arenas.{ArenaView, free_of}
use Rattle.in_compile.proofs.Public.{same_need}
use Rattle.in_reducer.specs.Machines.{MachineParts}
use Rattle.in_reducer.specs.Standing.{at_rest, vacant_in}
use Rattle.in_reducer.proofs.Cells.AtRest.{rests}
use Rattle.in_reducer.proofs.Steps.Stepped.{free_is}
use Rattle.in_reducer.proofs.reducer.Reducer.vacant.Goals as goal

pub returns : goal.returns
returns c =
    let a = c.self.inside.body.arena in
    same_need c.free_in.result (vacant_in (at_rest a)) (λ d. c.free_in.ensures d ∙ ap (λ (v : ArenaView). free_of v d) (sym (rests a c.self.invariant.none)) ∙ sym (free_is (at_rest a) d))
    ∙ ap (λ (m : MachineParts). m.vacant) c.self.view_is
