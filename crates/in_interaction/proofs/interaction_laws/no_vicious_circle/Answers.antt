use Rattle.in_interaction.proofs.Interactions.Vicious.{crossing_circle}
use Rattle.in_interaction.proofs.interaction_laws.no_vicious_circle.Goals as goal

pub returns : goal.returns
returns c = λ sig n classed net none vicious. none (crossing_circle sig classed n net vicious)
