use Rattle.std.proofs.Common.{◌+◌, length, refl, arith}
use Rattle.std.proofs.lemmas.Option.{slice_get_read}
use Rattle.in_reducer.specs.PartingLaws.{uncut}
use Rattle.in_phases.proofs.CutTimes.{ends_more, gathered_on, place_on, times_on, times_stay}
use Rattle.in_phases.proofs.cutting.cut_off.Goals as goal

pub loop-number-init : goal.loop-number-init
loop-number-init c = uncut c.args.reducer.now

pub cut_place-more-requires-clause-branch : goal.cut_place-more-requires-clause-branch
cut_place-more-requires-clause-branch c =
    let b = c.args.branch.now in
    gathered_on c.args.reducer.now c.loop-number.reducer (times_stay c.args.reducer.now c.loop-number.reducer c.loop-number.cuts c.loop-number.invariant) b.agents.items b.marks.items c.requires.branch

pub cut_place-more-requires-clause-there : goal.cut_place-more-requires-clause-there
cut_place-more-requires-clause-there c =
    let m = c.args.reducer.now in
    let n = c.loop-number.reducer in
    let xs = c.args.branch.now.ports.items in
    let low = c.loop-number-test.true in
    let end = c.loop-number.auto.number-end in
    let long = c.len-number-end.ensures in
    let ok = c.args.branch.now.ports.ok.0 in
    place_on m n c.pairs.ensures.reducer c.pairs-in-loop-number.ensures.reducer (times_stay m n c.loop-number.cuts c.loop-number.invariant) c.index.result.now.cell.0 c.index.result.now.place
    (c.requires.ports c.loop-number.number c.index.result.now (slice_get_read xs (length xs) c.loop-number.number c.index.result.now refl (omega (arith, low, end, long, ok)) c.index.ensures))

pub loop-number-preserved : goal.loop-number-preserved
loop-number-preserved c = times_on c.args.reducer.now c.loop-number.reducer c.cut_place-more.new.reducer c.loop-number.cuts c.cut_place-more.result c.loop-number.invariant c.cut_place-more.ensures.cuts

pub overflow_add-cuts : goal.overflow_add-cuts
overflow_add-cuts c =
    let more = ends_more c.args.reducer.now c.cut_place-more.new.reducer (c.loop-number.cuts + c.cut_place-more.result) (times_on c.args.reducer.now c.loop-number.reducer c.cut_place-more.new.reducer c.loop-number.cuts c.cut_place-more.result c.loop-number.invariant c.cut_place-more.ensures.cuts) in
    let free = c.free_ends.ensures in
    omega (arith, more, free)
