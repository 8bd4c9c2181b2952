use native.Mathlib.Decide.{ℕ_discrete}
use Rattle.in_interaction.proofs.Interactions.Rounds.{shortens}
use Rattle.in_interaction.proofs.interaction_laws.closed_walks_shorten.Goals as goal

pub returns : goal.returns
returns c = λ sig x walk. shortens sig x ℕ_discrete walk
