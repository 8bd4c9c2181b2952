use Rattle.std.proofs.Common.{◌≢◌, ◌<◌, ℕ}
use Rattle.in_interaction.specs.Interacting.{unused}
use Rattle.in_interaction.proofs.following.Site.named.Given as goal

abbrev pub invariant-loop-agent : goal.invariant-loop-agent
invariant-loop-agent l = (k : ℕ) → k < l.agent → unused l.self.net.cells k ≢ l.number.0
