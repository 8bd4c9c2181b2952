use Rattle.in_interaction.proofs.Interactions.NoNewCircle.{made_of}
use Rattle.in_interaction.proofs.interaction_laws.circles_fall_apart.Goals as goal

pub returns : goal.returns
returns c = λ sig n x name after classed net inside redex step circle. made_of sig classed n x net inside redex name after step circle
