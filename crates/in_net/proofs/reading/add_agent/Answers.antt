use Rattle.std.proofs.Common.{◌∙◌, ◌++◌, ◌∷◌, [], sym, ap, arith, length}
use Rattle.in_net.specs.declared.reading.TextSpot.TheVariants.{Port}
use Rattle.in_net.proofs.WholeNets.Ports.{one_more}
use Rattle.in_net.proofs.reading.add_agent.Goals as goal

pub loop-port-preserved : goal.loop-port-preserved
loop-port-preserved c = record {
  spots =
      one_more (length c.loop-port.reading.agents) c.args.place c.loop-port.port c.args.arity c.loop-port.reading.spots c.push.new.self _ (omega arith)
      (c.in_ok-push.ensures.ok ∙ ap (λ a. c.loop-port.reading.spots ++ Port a c.loop-port.port c.args.place ∷ []) (c.len-agent.ensures ∙ sym (ap length c.loop-port.invariant.agents)))
      c.loop-port.invariant.spots;
  agents = c.loop-port.invariant.agents;
  joints = c.loop-port.invariant.joints;
  names = c.loop-port.invariant.names;
}
