use Rattle.std.proofs.Common.{sym, ap, ◌∙◌}
use Rattle.in_arena.specs.Arenas.{ArenaView, free_of}
use Rattle.in_compile.specs.Cells.{count_of}
use Rattle.in_reducer.specs.Machines.{MachineParts}
use Rattle.in_reducer.specs.Standing.{at_rest}
use Rattle.in_reducer.proofs.Cells.AtRest.{rests}
use Rattle.in_reducer.proofs.Steps.Stepped.{free_is}
use Rattle.in_reducer.proofs.reducer.Reducer.free.Goals as goal

pub returns : goal.returns
returns c =
    let a = c.self.inside.body.arena in
    let class = c.args.class in
    c.free_count.ensures ∙ ap (λ (v : ArenaView). free_of v class) (sym (rests a c.self.invariant.none)) ∙ sym (free_is (at_rest a) class) ∙ ap (λ (m : MachineParts). count_of m.vacant class) c.self.view_is
