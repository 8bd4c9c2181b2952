use Rattle.in_interaction.proofs.Queues.OwnPairs.{AddsBelow}
use Rattle.in_interaction.proofs.following.Site.add_own.Given as goal

abbrev pub invariant-loop-wire : goal.invariant-loop-wire
invariant-loop-wire l = AddsBelow l.symbols l.self l.wire l.fn.pairs.items l.pairs.items
