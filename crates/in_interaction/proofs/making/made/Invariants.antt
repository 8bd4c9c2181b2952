use Rattle.in_interaction.specs.Making.{AreMadeBelow}
use Rattle.in_interaction.proofs.making.made.Given as goal

abbrev pub invariant-loop-end : goal.invariant-loop-end
invariant-loop-end l = AreMadeBelow l.symbols l.site l.end l.pairs.items
