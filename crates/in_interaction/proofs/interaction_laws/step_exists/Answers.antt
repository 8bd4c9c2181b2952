use native.Mathlib.Decide.{ℕ_discrete}
use Rattle.in_interaction.proofs.Interactions.StepExists.{step_exists}
use Rattle.in_interaction.proofs.Interactions.StaysNet.{is_net}
use Rattle.in_interaction.proofs.interaction_laws.step_exists.Goals as goal

pub returns : goal.returns
returns c = λ sig n x name net inside redex naming. (let s = step_exists sig n x name net inside redex naming ℕ_discrete in (s.0, s.1, is_net sig n x name s.0 net inside redex s.1 ℕ_discrete))
