use Rattle.std.proofs.Common.{[]}
use Rattle.in_compile.proofs.Public.{none_begun}
use Rattle.in_reducer.proofs.Steps.Points.{none_at}
use Rattle.in_reducer.proofs.wiring.begin_agents.Goals as goal

pub begin_rest-requires-clause-begun : goal.begin_rest-requires-clause-begun
begin_rest-requires-clause-begun c = (c.args.arena.now, c.requires, ([], none_begun c.args.member.now c.args.arena.now, none_at c.args.points.now))

pub returns-clause-begun : goal.returns-clause-begun
returns-clause-begun c = c.begin_rest.ensures.begun c.args.arena.now c.requires ([], none_begun c.args.member.now c.args.arena.now, none_at c.args.points.now)
