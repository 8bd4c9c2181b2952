use native.Mathlib.Decide.{ℕ_discrete}
use Rattle.std.proofs.Common.{inl, inr}
use Rattle.in_interaction.proofs.Interactions.ClosedPath.{no_closed_path}
use Rattle.in_interaction.proofs.Interactions.Names.{class_discrete}
use Rattle.in_interaction.proofs.interaction_laws.no_closed_path.Goals as goal

pub returns : goal.returns
returns c = λ sig n x classed net inside redex none_before none_inside circle.
    elim (no_closed_path sig classed n x net inside redex ℕ_discrete ℕ_discrete class_discrete circle) [
      | inl r ↦ none_before r
      | inr r ↦ none_inside r
    ]
