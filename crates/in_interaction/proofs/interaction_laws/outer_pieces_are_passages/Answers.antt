use native.Mathlib.Decide.{ℕ_discrete}
use Rattle.in_interaction.proofs.Interactions.OuterPieces.{is_passage}
use Rattle.in_interaction.proofs.interaction_laws.outer_pieces_are_passages.Goals as goal

pub returns : goal.returns
returns c = λ sig n x classed net redex none e f ps piece. is_passage sig n x classed net redex ℕ_discrete none e f ps piece
