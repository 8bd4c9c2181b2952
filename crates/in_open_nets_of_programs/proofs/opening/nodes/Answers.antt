use Rattle.std.proofs.Common.{◌≡◌, length, subst, arith}
use Rattle.in_open_nets_of_programs.specs.Opening.{Member}
use Rattle.in_open_nets_of_programs.proofs.Counted.{count_all}
use Rattle.in_open_nets_of_programs.proofs.opening.nodes.Goals as goal

pub returns-clause-nodes : goal.returns-clause-nodes
returns-clause-nodes c =
    let f = count_all c.built.inside.net.now.cells c.built.invariant.there in
    let count : length c.loop-agent.nodes ≡ length c.built.inside.net.now.cells = omega arith in
    (subst (λ (m : Member). length c.loop-agent.nodes ≡ length m.net.cells) c.built.view_is count, c.loop-agent.invariant.each)
