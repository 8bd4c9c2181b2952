use Rattle.std.proofs.Common.{length}
use Rattle.std.specs.Prelude.{slice_index_or}
use Rattle.std.proofs.lemmas.Option.{slice_get-get_or}
use Rattle.in_cells.proofs.Written.{alike, one_more_written, within_list}
use Rattle.in_cells.proofs.writing.write_agents.Goals as goal

pub write_agent-requires-clause-named : goal.write_agent-requires-clause-named
write_agent-requires-clause-named c =
    let agents = c.args.agents.now in let x = c.loop-number.number in
    c.requires.names x (slice_index_or agents x (record { 0 = 0 })) (slice_get-get_or agents x (record { 0 = 0 }) c.loop-number-test.true)

pub write_agent-requires-clause-begun : goal.write_agent-requires-clause-begun
write_agent-requires-clause-begun c =
    let agents = c.args.agents.now in let x = c.loop-number.number in
    let at = slice_get-get_or agents x (record { 0 = 0 }) c.loop-number-test.true in
    alike c.args.from.now agents c.args.names.now c.args.ends.now c.args.to.now c.requires.all c.requires.part c.requires.cells x c.loop-number.to c.loop-number.invariant (slice_index_or agents x (record { 0 = 0 })) at

pub write_agent-requires-clause-within : goal.write_agent-requires-clause-within
write_agent-requires-clause-within c i e stands =
    let agents = c.args.agents.now in let x = c.loop-number.number in
    let agent = slice_index_or agents x (record { 0 = 0 }) in
    let at = slice_get-get_or agents x (record { 0 = 0 }) c.loop-number-test.true in
    within_list agents (length c.args.ends.now) (length c.args.names.now) c.requires.names e (c.requires.closed x i agent e at stands)

pub loop-number-preserved : goal.loop-number-preserved
loop-number-preserved c =
    let agents = c.args.agents.now in let x = c.loop-number.number in
    let at = slice_get-get_or agents x (record { 0 = 0 }) c.loop-number-test.true in
    one_more_written c.args.from.now agents c.args.names.now c.args.ends.now c.args.to.now c.requires.all c.requires.part c.requires.cells x c.loop-number.to c.loop-number.invariant (slice_index_or agents x (record { 0 = 0 })) at
    c.write_agent.new.to c.write_agent.ensures
