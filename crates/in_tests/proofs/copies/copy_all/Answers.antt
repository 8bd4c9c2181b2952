use Rattle.std.proofs.Common.{length, slice_get, List, sym, ap, ◌∙◌, arith}
use Rattle.in_arena.specs.declared.content.CellNo.{CellNo}
use Rattle.in_arena.proofs.Public.{live_inside}
use Rattle.in_tests.proofs.copies.copy_all.Goals as goal

pub copy-requires-clause-names : goal.copy-requires-clause-names
copy-requires-clause-names g c = λ k n at. (
    let live = c.in_ok-agents.ensures.part.live k n (ap (λ (ns : List CellNo). slice_get ns k) (sym c.as_slice-3.ensures.value) ∙ at) in
    let low = live_inside c.args.from.now n.0 live in
    let all = c.all_cells.ensures in
    let made = c.in_ok-names.ensures.len in
    let long = c.as_mut_slice.ensures.len in
    let value = ap length c.as_mut_slice.ensures.value in
    omega (arith, low, all, made, long, value)
    )
