use Rattle.std.specs.Prelude.{slice_index_or}
use Rattle.std.proofs.lemmas.Option.{slice_get-get_or}
use Rattle.in_cells.proofs.Retired.{live_still, one_more_retired}
use Rattle.in_cells.proofs.retiring.retire_all.Goals as goal

pub retire-requires : goal.retire-requires
retire-requires c =
    let agents = c.args.agents.now in let x = c.loop-number.number in
    let at = slice_get-get_or agents x (record { 0 = 0 }) c.loop-number-test.true in
    live_still agents c.args.arena.now c.requires.part x c.loop-number.arena c.loop-number.invariant (slice_index_or agents x (record { 0 = 0 })) at

pub loop-number-preserved : goal.loop-number-preserved
loop-number-preserved c =
    let agents = c.args.agents.now in let x = c.loop-number.number in
    let at = slice_get-get_or agents x (record { 0 = 0 }) c.loop-number-test.true in
    one_more_retired agents c.args.arena.now c.requires.part x c.loop-number.arena c.loop-number.invariant (slice_index_or agents x (record { 0 = 0 })) at c.cells.ensures.1 c.requires.classed c.retire.new.self c.retire.ensures
