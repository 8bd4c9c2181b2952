use Rattle.std.proofs.Common.{◌≡◌, Some}
use Rattle.in_interaction.specs.Listing.{AreListed}
use Rattle.in_net.specs.Parts.{Parts, cell_in}
use Rattle.in_net.specs.TextNet.{ComesBefore}
use Rattle.in_net.specs.declared.nets.Cell.{Cell}
use Rattle.in_net.specs.declared.nets.Point.TheVariants.{Port}
use Rattle.in_interaction.proofs.listing.add_wires.Given as goal

abbrev pub invariant-loop-place : goal.invariant-loop-place
invariant-loop-place l = (n : Parts) (c : Cell) → cell_in n l.agent.0 ≡ Some c → c.ends ≡ l.ends → AreListed n (λ p. ComesBefore p (Port l.agent 0)) l.fn.wires → AreListed n (λ p. ComesBefore p (Port l.agent l.place)) l.wires
