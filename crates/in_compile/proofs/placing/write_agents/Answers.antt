use Rattle.std.proofs.Common.{◌<◌, arith}
use Rattle.std.specs.Prelude.{length, slice_index_or}
use Rattle.in_base.proofs.Each.{at_index}
use Rattle.in_compile.proofs.Placements.AgentByAgent.{one_more_written, read_at}
use Rattle.in_compile.proofs.placing.write_agents.Goals as goal

pub loop-agent-preserved : goal.loop-agent-preserved
loop-agent-preserved c =
    let m = c.args.member.now in
    let ns = c.args.numbers.now in
    let x = c.loop-agent.agent in
    let l : x < length m.agents = (let e = c.agents-agent-end.ensures in let t = c.loop-agent-test.true in omega (arith, e, t)) in
    let a = at_index m.agents x l in
    let n = slice_index_or ns x (record { 0 = 0 }) in
    let at = read_at ns x (let e = c.requires.many in omega (arith, l, e)) in
    one_more_written m ns c.args.bag.now x c.loop-agent.bag c.loop-agent.invariant a.0 n a.1 at c.write_agent.new.bag (c.write_agent.ensures a.0 n a.1 at)
