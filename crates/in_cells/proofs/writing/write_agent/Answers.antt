use Rattle.std.proofs.Common.{◌∙◌, ap}
use Rattle.std.proofs.lemmas.List.{get_or_default}
use Rattle.in_arena.specs.Arenas.{changed, state_at}
use Rattle.in_arena.specs.States.{with_end}
use Rattle.in_arena.specs.declared.content.CellNo.{CellNo}
use Rattle.in_arena.proofs.Public.{live_inside}
use Rattle.in_cells.specs.Copying.{name_in, number_in}
use Rattle.in_cells.proofs.Written.{alike_live, begun, one_more_end}
use Rattle.in_cells.proofs.writing.write_agent.Goals as goal

pub loop-place-init : goal.loop-place-init
loop-place-init c =
    let names = c.args.names.now in
    begun (name_in names) (number_in c.args.ends.now) (state_at c.args.from.now c.args.cell.0) (name_in names c.args.cell.0) c.args.to.now c.requires.live c.requires.begun

pub loop-place-preserved : goal.loop-place-preserved
loop-place-preserved c =
    let names = c.args.names.now in
    let x = state_at c.args.from.now c.args.cell.0 in
    let n = name_in names c.args.cell.0 in
    let to = c.args.to.now in
    one_more_end (name_in names) (number_in c.args.ends.now) x n to c.loop-place.place c.loop-place.to c.loop-place.invariant (live_inside to n (alike_live x (state_at to n) c.requires.live c.requires.begun)) c.word.result
    c.set_word.new.self c.word.ensures (c.set_word.ensures ∙ ap (λ (m : CellNo). changed c.loop-place.to m.0 (with_end (state_at c.loop-place.to m.0) c.loop-place.place c.moved_end-end.result)) (c.no-new.ensures ∙ c.index-names-cell.is ∙ get_or_default names c.args.cell.0 c.index-names-cell.result (record { 0 = 0 }) c.requires.named) ∙ ap (λ e. changed c.loop-place.to n (with_end (state_at c.loop-place.to n) c.loop-place.place e)) c.moved_end-end.ensures)
