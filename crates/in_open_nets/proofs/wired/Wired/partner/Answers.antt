use Rattle.std.proofs.Common.{◌≡◌, sym, subst, ◌∙◌, ap, get_or, length, ℕ, None, ◌<◌, ◌+◌, ◌*◌, List}
use Rattle.std.proofs.lemmas.List.{get_or_default}
use Rattle.in_open_nets.specs.OpenNets.{OpenNet, IsOrderly}
use Rattle.in_open_nets.specs.declared.open_nets.OpenPoint.TheVariants.{Port}
use Rattle.in_open_nets.specs.Parts.{IsWired, Slot}
use Rattle.in_open_nets.specs.Stuck.{ports_of}
use Rattle.in_open_nets.proofs.Built.Balance.{wire_turn}
use Rattle.in_open_nets.proofs.PartsOf.Slots.{has_slot, port_point, slot_there, slot_right}
use Rattle.in_open_nets.proofs.wired.Wired.partner.Goals as goal
use Rattle.in_syntax.specs.Grammar.{max_ports}

-- the content of the slot of a port, by any default
read : (o : OpenNet) → IsOrderly o → (slots found : List Slot) (n i : ℕ) (s : Slot) → IsWired o slots → i < ports_of o n → found ≡ slots
    → s ≡ get_or found (n * (max_ports + 1) + i) s → get_or slots (n * (max_ports + 1) + i) None ≡ s
read o orderly slots found n i s w h e is =
    let k = n * (max_ports + 1) + i in
    let l : k < length found = subst (λ z. k < length z) (sym e) (has_slot o orderly slots (Port n i) w.all (port_point o n i h)) in
    ap (λ z. get_or z k None) (sym e) ∙ get_or_default found k None s l ∙ sym is

pub unreachable-requires : goal.unreachable-requires
unreachable-requires c =
    let o = c.args.self.now in
    let n = subst IsOrderly c.self.view_is c.self.invariant.0 in
    let w = subst (λ z. IsWired z c.self.inside.slots) c.self.view_is c.self.invariant.1 in
    slot_there o n c.self.inside.slots c.args.node c.args.port w c.requires.node c.requires.port
    (read o n c.self.inside.slots c.as_slice.result.now c.args.node c.args.port c.index-as_slice-node.result w c.requires.port c.as_slice.ensures c.index-as_slice-node.is ∙ sym c.get.ensures ∙ c.in-None.is)

pub returns-clause-wire : goal.returns-clause-wire
returns-clause-wire c =
    let o = c.args.self.now in
    let n = subst IsOrderly c.self.view_is c.self.invariant.0 in
    let w = subst (λ z. IsWired z c.self.inside.slots) c.self.view_is c.self.invariant.1 in
    slot_right o n c.self.inside.slots c.args.node c.args.port c.in-Some.found w c.requires.node c.requires.port
    (read o n c.self.inside.slots c.as_slice.result.now c.args.node c.args.port c.index-as_slice-node.result w c.requires.port c.as_slice.ensures c.index-as_slice-node.is ∙ sym c.get.ensures ∙ c.in-Some.is)

pub returns-clause-point : goal.returns-clause-point
returns-clause-point c =
    let o = c.args.self.now in
    let n = subst IsOrderly c.self.view_is c.self.invariant.0 in
    n.net.points c.in-Some.found.0 c.in-Some.found.1 (Port c.args.node c.args.port) (wire_turn o c.in-Some.found.0 (Port c.args.node c.args.port) c.in-Some.found.1 (returns-clause-wire c))
