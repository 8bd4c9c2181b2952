use Rattle.std.proofs.Common.{◌∙◌}
use Rattle.in_reducer.proofs.Steps.Points.{all_begun}
use Rattle.in_reducer.proofs.wiring.begin_rest.Goals as goal

pub returns-then-from-agents-clause-begun : goal.returns-then-from-agents-clause-begun
returns-then-from-agents-clause-begun c = λ v can h. (h.0, all_begun c.args.member.now v c.args.arena.now h.0 c.args.from (c.if-from-agents.true ∙ c.agents.ensures) h.1, h.2)
