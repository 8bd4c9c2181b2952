use Rattle.in_gluing.proofs.EndByEnd.{ends_are_joined_in_turn}
use Rattle.in_gluing.proofs.laws.ends_are_joined_in_turn.Goals as goal

pub returns : goal.returns
returns c = ends_are_joined_in_turn
