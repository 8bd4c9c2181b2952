use Rattle.std.proofs.Common.{List}
use Rattle.in_interaction.specs.Listing.{unlisted, AreEndsOf, AreListed}
use Rattle.in_net.specs.TextNet.{ComesBefore}
use Rattle.in_net.specs.declared.nets.FreeEnd.{FreeEnd}
use Rattle.in_net.specs.declared.nets.Point.TheVariants.{Port}
use Rattle.in_interaction.proofs.listing.wires.Given as goal

abbrev pub invariant-loop-number : goal.invariant-loop-number
invariant-loop-number l = (free : List FreeEnd) → AreEndsOf l.ends free → AreListed (unlisted l.cells free) (λ p. ComesBefore p (Port (record { 0 = l.number }) 0)) l.wires
