use Rattle.std.proofs.Common.{◌<◌, length, arith}
use Rattle.std.specs.Prelude.{slice_index_or}
use Rattle.in_base.proofs.Each.{at_index}
use Rattle.in_compile.proofs.Placements.AgentByAgent.{read_at}
use Rattle.in_compile.proofs.Placements.Put.{all_put, none_put, one_more_put, still_begun}
use Rattle.in_compile.proofs.putting.write_all.Goals as goal

pub loop-agent-init : goal.loop-agent-init
loop-agent-init c = none_put c.args.member.now c.args.numbers.now c.args.arena.now

pub write-requires-clause-many : goal.write-requires-clause-many
write-requires-clause-many c = c.requires.begun.1.count

pub write-requires-clause-begun : goal.write-requires-clause-begun
write-requires-clause-begun c = λ a n stands at.
    still_begun c.args.member.now c.requires.begun.0 c.args.arena.now c.args.numbers.now c.requires.begun.1 c.loop-agent.agent c.loop-agent.arena c.loop-agent.invariant a n stands at a n stands at

pub loop-agent-preserved : goal.loop-agent-preserved
loop-agent-preserved c =
    let m = c.args.member.now in
    let ns = c.args.numbers.now in
    let x = c.loop-agent.agent in
    let l : x < length m.agents = (let e = c.agents-agent-end.ensures in let t = c.loop-agent-test.true in omega (arith, e, t)) in
    let a = at_index m.agents x l in
    let n = slice_index_or ns x (record { 0 = 0 }) in
    let at = read_at ns x (let e = c.requires.begun.1.count in omega (arith, l, e)) in
    one_more_put m c.requires.begun.0 c.args.arena.now ns c.requires.begun.1 x c.loop-agent.arena c.loop-agent.invariant a.0 n a.1 at c.write.new.arena (c.write.ensures a.0 n a.1 at)

pub returns : goal.returns
returns c = λ a begun.
    all_put c.args.member.now a c.args.arena.now c.args.numbers.now begun c.loop-agent.agent c.loop-agent.arena (let e = c.agents-agent-end.ensures in let t = c.loop-agent-test.false in omega (arith, e, t)) c.loop-agent.invariant
