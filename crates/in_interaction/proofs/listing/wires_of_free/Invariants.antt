use Rattle.in_interaction.specs.Listing.{AreEndsOf, AreListed}
use Rattle.in_net.specs.Parts.{Parts}
use Rattle.in_net.specs.TextNet.{ComesBefore}
use Rattle.in_net.specs.declared.nets.Point.TheVariants.{Free}
use Rattle.in_interaction.proofs.listing.wires_of_free.Given as goal

abbrev pub invariant-loop-number : goal.invariant-loop-number
invariant-loop-number l = (n : Parts) → AreEndsOf l.ends n.free → AreListed n (λ p. ComesBefore p (Free l.number)) l.wires
