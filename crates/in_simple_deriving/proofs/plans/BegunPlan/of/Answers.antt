use Rattle.std.proofs.Common.{sym, subst}
use Rattle.in_open_nets.specs.Parts.{IsRest}
use Rattle.in_simple_deriving.specs.Turns.{HeadedPart, IsNodeTurns, rest_of}
use Rattle.in_simple_deriving.proofs.Begins.{starts, takes_head}
use Rattle.in_simple_deriving.proofs.HeadParts.{rest_is}
use Rattle.in_simple_deriving.proofs.plans.BegunPlan.of.Goals as goal

pub returns-clause-rest : goal.returns-clause-rest
returns-clause-rest c =
    let x = c.apart-node.result.0.now in
    let a = c.apart-node.result.1 in
    subst (λ (z : HeadedPart). IsRest z.head z.nodes (rest_of x a)) (sym c.apart-node.ensures.part) (rest_is x a)

pub invariant_of-result : goal.invariant_of-result
invariant_of-result c =
    let x = c.apart-node.result.0.now in
    let a = c.apart-node.result.1 in
    let h = subst IsNodeTurns c.order.ensures c.taken.ensures.turns in
    starts c.args.wired.now x a c.args.part c.new.result h c.apart-node.ensures.head c.apart-node.ensures.part c.requires.net c.requires.first c.requires.piece c.new.ensures

pub invariant_of-plan : goal.invariant_of-plan
invariant_of-plan c =
    let x = c.apart-node.result.0.now in
    let a = c.apart-node.result.1 in
    let h = subst IsNodeTurns c.order.ensures c.taken.ensures.turns in
    (c.apart-node.ensures.head.0, takes_head c.args.wired.now x a c.args.part h c.apart-node.ensures.head c.apart-node.ensures.part c.requires.net c.requires.first)
