use native.Mathlib.Decide.{ℕ_discrete}
use Rattle.in_interaction.proofs.Interactions.Ahead.{each_leads_on}
use Rattle.in_interaction.proofs.interaction_laws.each_leads_on.Goals as goal

pub returns : goal.returns
returns c = λ sig n classed net none. each_leads_on sig classed n net ℕ_discrete none
