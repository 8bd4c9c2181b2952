use Rattle.in_interaction.specs.Making.{IsOnWay, side_of}
use Rattle.in_interaction.proofs.following.Site.landing.Given as goal

abbrev pub invariant-loop-wire : goal.invariant-loop-wire
invariant-loop-wire l = IsOnWay l.self (side_of l.fn.side) l.end (side_of l.by) l.at l.wire
