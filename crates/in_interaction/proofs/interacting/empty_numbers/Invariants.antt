use Rattle.in_interaction.proofs.Stepping.Unused.{AreFound}
use Rattle.in_interaction.proofs.interacting.empty_numbers.Given as goal

abbrev pub invariant-loop-number : goal.invariant-loop-number
invariant-loop-number l = AreFound l.cells l.count l.number l.names.items
