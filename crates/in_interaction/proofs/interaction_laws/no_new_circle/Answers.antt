use native.Mathlib.Decide.{ℕ_discrete}
use Rattle.in_interaction.proofs.Interactions.NoNewCircle.{no_new_circle}
use Rattle.in_interaction.proofs.interaction_laws.no_new_circle.Goals as goal

pub returns : goal.returns
returns c = λ sig n x name after classed net inside redex step none_before none_inside circle. no_new_circle sig classed n x net inside redex name after step ℕ_discrete ℕ_discrete none_before none_inside circle
