use Rattle.in_interaction.proofs.Interactions.CycleWalks.{closed_walk}
use Rattle.in_interaction.proofs.interaction_laws.cycles_leave_walks.Goals as goal

pub returns : goal.returns
returns c = λ sig n x cycle passages. closed_walk sig n x cycle passages
