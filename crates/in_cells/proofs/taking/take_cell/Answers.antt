use Rattle.std.proofs.Common.{◌∙◌, sym, subst}
use Rattle.in_arena.specs.Arenas.{state_at}
use Rattle.in_arena.specs.Classes.{Holds}
use Rattle.in_cells.proofs.Taken.{cell_taken}
use Rattle.in_cells.proofs.taking.take_cell.Goals as goal

pub begin-requires : goal.begin-requires
begin-requires c = subst (Holds c.for_places-class.result) (c.places.ensures.places ∙ sym c.head.ensures.places) c.for_places-class.ensures

pub returns : goal.returns
returns c =
    let head = c.head in
    cell_taken c.args.to.now c.requires.all (state_at c.args.from.now c.args.cell.0) c.for_places-class.result head.result.count head.result.word head.ensures.places head.ensures.symbol
    (subst (Holds c.for_places-class.result) (c.places.ensures.places ∙ sym head.ensures.places) c.for_places-class.ensures) c.in-Some.new.0 c.begin.new.self c.in-Some.ensures
