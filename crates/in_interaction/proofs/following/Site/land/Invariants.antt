use Rattle.std.proofs.Common.{◌-◌}
use Rattle.in_interaction.specs.Following.{Lands, most_turns}
use Rattle.in_interaction.proofs.following.Site.land.Given as goal

abbrev pub invariant-loop-turn : goal.invariant-loop-turn
invariant-loop-turn l = (v : _) → Lands l.self most_turns l.fn.arrived v → Lands l.self (most_turns - l.turn) l.at v
