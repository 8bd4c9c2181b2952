use Rattle.std.proofs.Common.{ℕ, List, ◌<◌, length, sym, subst, ap, ◌∙◌}
use Rattle.in_open_nets.specs.declared.open_nets.OpenNode.{OpenNode}
use Rattle.in_open_nets.specs.OpenNets.{OpenNet, IsOrderly}
use Rattle.in_open_nets.specs.Stuck.{IsStuckAt}
use Rattle.in_open_nets.proofs.Splits.StuckNodes.{some_stuck, stuck_below, stuck_read}
use Rattle.in_open_nets.proofs.derivations.Stuck.place.Goals as goal

pub bounds-as_slice-0 : goal.bounds-as_slice-0
bounds-as_slice-0 c =
    let net = subst IsOrderly c.«open».view_is c.«open».invariant in
    subst (λ (z : List ℕ). 0 < length z) (sym c.as_slice.ensures) (some_stuck c.args.«open».now net.net c.args.self.now c.requires)

pub bounds-nodes-first : goal.bounds-nodes-first
bounds-nodes-first c =
    let net = subst IsOrderly c.«open».view_is c.«open».invariant in
    stuck_below c.args.«open».now net.net c.args.self.now c.requires c.as_slice-nodes.result.now c.as_slice.result.now (c.as_slice-nodes.ensures ∙ ap (λ (o : OpenNet). o.nodes) c.«open».view_is) c.as_slice.ensures

pub bounds-nodes-first-2 : goal.bounds-nodes-first-2
bounds-nodes-first-2 c =
    let net = subst IsOrderly c.«open».view_is c.«open».invariant in
    stuck_below c.args.«open».now net.net c.args.self.now c.requires c.as_slice-nodes.result.now c.as_slice.result.now (c.as_slice-nodes.ensures ∙ ap (λ (o : OpenNet). o.nodes) c.«open».view_is) c.as_slice.ensures

pub returns : goal.returns
returns c =
    let net = subst IsOrderly c.«open».view_is c.«open».invariant in
    subst (λ (m : OpenNode). IsStuckAt c.args.«open».now m.place) c.index-nodes-first.is
    (stuck_read c.args.«open».now net.net c.args.self.now c.requires c.as_slice-nodes.result.now c.as_slice.result.now c.index-nodes-first.result (c.as_slice-nodes.ensures ∙ ap (λ (o : OpenNet). o.nodes) c.«open».view_is) c.as_slice.ensures c.index-nodes-first.is)
