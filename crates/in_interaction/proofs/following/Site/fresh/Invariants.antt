use Rattle.std.proofs.Common.{◌≡◌, length}
use Rattle.in_interaction.specs.After.{AreEndsAfter}
use Rattle.in_interaction.specs.Interacting.{unused}
use Rattle.in_interaction.proofs.following.Site.fresh.Given as goal

abbrev pub invariant-loop-place : goal.invariant-loop-place
invariant-loop-place l = record { many : length l.ends ≡ l.place; each : AreEndsAfter l.self (unused l.self.net.cells l.agent.0) l.ends }
