use Rattle.std.proofs.Common.{◌+◌, ap, ◌∙◌}
use Rattle.in_compile.specs.declared.cells.Need.{Need}
use Rattle.in_compile.specs.Cells.{agents_of, count_of}
use Rattle.in_phases.proofs.Coming.{cells_fit, comes_back, ends_fit, fewer, room_back}
use Rattle.in_phases.proofs.taking.bring_back.Goals as goal

pub glue_on-requires-clause-fewer : goal.glue_on-requires-clause-fewer
glue_on-requires-clause-fewer c = let r = c.requires.back in fewer r.0 r.1 c.args.taken c.args.reducer.now r.2

pub glue_on-requires-clause-ends : goal.glue_on-requires-clause-ends
glue_on-requires-clause-ends c = let r = c.requires.back in ends_fit r.0 r.1 c.args.taken c.args.reducer.now r.2

pub glue_on-requires-clause-cells : goal.glue_on-requires-clause-cells
glue_on-requires-clause-cells c = let r = c.requires.back in cells_fit r.0 r.1 c.args.taken c.args.reducer.now r.2

pub join_up-requires : goal.join_up-requires
join_up-requires c =
    let r = c.requires.back in
    let x = comes_back r.0 r.1 c.args.taken c.args.reducer.now c.glue_on.new.self r.2 c.glue_on.ensures.glued in
    record { cut = (r.0, x.cut, r.1, r.2.taken.reducer, x.times, x.reduced) }

pub returns-clause-reduces : goal.returns-clause-reduces
returns-clause-reduces c = λ m k h.
    (
    let x = comes_back m k c.args.taken c.args.reducer.now c.glue_on.new.self h c.glue_on.ensures.glued in
    c.join_up.ensures.reduces m x.cut k h.taken.reducer x.times x.reduced
    )

pub returns-clause-vacant : goal.returns-clause-vacant
returns-clause-vacant c = λ d.
    (
    let r = c.requires.back in
    ap (λ (n : Need). count_of n d + agents_of c.args.reducer.now.program.tables d c.args.taken.part.agents) c.join_up.ensures.vacant
    ∙ room_back r.0 r.1 c.args.taken c.args.reducer.now c.glue_on.new.self r.2 c.glue_on.ensures.glued d
    )
