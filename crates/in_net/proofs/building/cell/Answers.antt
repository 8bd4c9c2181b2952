use Rattle.std.proofs.Common.{arith, ◌∙◌, ap, ◌++◌, ◌∷◌, []}
use Rattle.in_net.proofs.WholeNets.Steps.{one_end}
use Rattle.in_net.proofs.building.cell.Goals as goal

pub loop-port-preserved : goal.loop-port-preserved
loop-port-preserved c =
    one_end c.args.spots.now c.args.links.now c.args.agent.now.first c.loop-port.port c.args.arity c.loop-port.ends c.push.new.self _ (omega arith)
    (c.in_ok-push.ensures.ok ∙ ap (λ p. c.loop-port.ends ++ p ∷ []) c.partner.ensures) c.loop-port.invariant
