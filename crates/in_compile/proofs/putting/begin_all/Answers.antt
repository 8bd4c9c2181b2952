use Rattle.std.proofs.Common.{◌<◌, length, arith, ◌∙◌}
use Rattle.in_base.proofs.Each.{at_index}
use Rattle.in_compile.proofs.Placements.Put.{one_more_begun, some_free}
use Rattle.in_compile.proofs.putting.begin_all.Goals as goal

pub begin-cell-requires-clause-free : goal.begin-cell-requires-clause-free
begin-cell-requires-clause-free c = λ a at.
    some_free c.args.member.now c.args.arena.now c.loop-agent.agent c.loop-agent.arena c.loop-agent.numbers.items c.loop-agent.invariant.begun a at c.is_sound.ensures c.requires.free

pub loop-agent-preserved : goal.loop-agent-preserved
loop-agent-preserved c =
    let m = c.args.member.now in
    let x = c.loop-agent.agent in
    let l : x < length m.agents = (let e = c.agents-agent-end.ensures in let t = c.loop-agent-test.true in omega (arith, e, t)) in
    let a = at_index m.agents x l in
    record {
      begun = one_more_begun m c.args.arena.now x c.loop-agent.arena c.loop-agent.numbers.items c.loop-agent.invariant.begun a.0 a.1 c.begin-cell.result c.begin-cell.new.arena (c.begin-cell.ensures a.0 a.1)
          c.push_reserved.new.self.items c.push_reserved.ensures.items;
      room = c.push_reserved.ensures.capacity ∙ c.loop-agent.invariant.room;
    }
