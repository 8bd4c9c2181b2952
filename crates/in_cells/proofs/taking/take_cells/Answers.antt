use Rattle.std.proofs.Common.{◌∙◌, length-set, arith}
use Rattle.std.specs.Prelude.{slice_index_or}
use Rattle.std.proofs.lemmas.Option.{slice_get-get_or}
use Rattle.in_cells.proofs.Taken.{one_more_taken, some_free}
use Rattle.in_cells.proofs.taking.take_cells.Goals as goal

pub take_cell-requires-clause-free : goal.take_cell-requires-clause-free
take_cell-requires-clause-free c =
    let agents = c.args.agents.now in let x = c.loop-number.number in
    let at = slice_get-get_or agents x (record { 0 = 0 }) c.loop-number-test.true in
    some_free c.args.from.now agents c.args.to.now x c.loop-number.to c.loop-number.names c.requires.part c.loop-number.invariant.taken (slice_index_or agents x (record { 0 = 0 })) at c.requires.room

pub loop-number-preserved : goal.loop-number-preserved
loop-number-preserved c =
    let agents = c.args.agents.now in let x = c.loop-number.number in
    let agent = slice_index_or agents x (record { 0 = 0 }) in
    let at = slice_get-get_or agents x (record { 0 = 0 }) c.loop-number-test.true in
    let names = c.loop-number.invariant.names in
    let l = c.requires.names x agent at in
    record {
      taken = one_more_taken c.args.from.now agents c.args.to.now x c.loop-number.to c.loop-number.names c.requires.part c.loop-number.invariant.taken agent at c.take_cell.result c.take_cell.new.to c.take_cell.ensures
          (omega (arith, l, names));
      names = length-set c.loop-number.names agent.0 c.take_cell.result ∙ names;
    }
