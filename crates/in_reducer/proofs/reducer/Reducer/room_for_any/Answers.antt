use Rattle.std.proofs.Common.{◌*◌, ◌≤◌, subst}
use Rattle.in_compile.specs.declared.cells.Need.{Need}
use Rattle.in_compile.specs.Cells.{count_of}
use Rattle.in_compile.proofs.Public.{all_classes_have_it}
use Rattle.in_reducer.proofs.Steps.RoomOn.{have_room}
use Rattle.in_reducer.proofs.reducer.Reducer.room_for_any.Goals as goal

pub returns : goal.returns
returns c =
    let need = c.largest_need-need.result in
    let many = c.loop-class.many in
    have_room c.args.templates.now need c.largest_need-need.ensures c.args.self.now c.pairs.ensures.reducer c.requires many (λ class. (
    subst (λ (free : Need). many * count_of need class ≤ count_of free class) c.vacant-free.ensures
    (all_classes_have_it (λ d. many * count_of need d ≤ count_of c.vacant-free.result d) c.loop-class.class-index c.loop-class-test.false c.loop-class.invariant.fits class)
    ))
