use Rattle.std.proofs.Common.{◌≡◌, ◌<◌, Some, None, ap, sym, subst, ◌∙◌}
use Rattle.in_net.specs.ActivePairs.{AreActive}
use Rattle.in_net.specs.Parts.{IsWhole, symbol_in}
use Rattle.in_net.specs.declared.nets.AgentNo.{AgentNo}
use Rattle.in_net.specs.declared.nets.Point.TheVariants.{Port}
use Rattle.in_net.proofs.AtPairs.ActivePairs.{one_partner, there, not_below, symbol_known, ordered_pair}
use Rattle.in_net.proofs.nets.Net.pair_at.Goals as goal

pub returns-in_err-second-in-Port-default-eq0 : goal.returns-in_err-second-in-Port-default-eq0
returns-in_err-second-in-Port-default-eq0 c =
    let n = c.args.self.now in
    let whole = subst IsWhole c.self.view_is c.self.invariant in
    let at = c.in-Port-default-eq0 in
    let active : AreActive n c.args.agent at.other = c.partner.ensures ∙ ap Some (at.is ∙ ap (λ z. Port at.other z) at.field-1-test) in
    let none : symbol_in n at.other.0 ≡ None = sym c.symbol-in-Port-default-eq0.ensures ∙ c.in_err-second-in-Port-default-eq0.was {u = tt} in
    absurd (there c.args.symbols.now n whole c.args.agent at.other active none)

pub in_order-requires-clause-one : goal.in_order-requires-clause-one
in_order-requires-clause-one c = symbol_known c.args.symbols.now c.args.self.now c.args.agent.0 c.in_ok-first.first c.requires (sym c.symbol.ensures ∙ c.in_ok-first.was {u = tt})

pub in_order-requires-clause-other : goal.in_order-requires-clause-other
in_order-requires-clause-other c =
    let ok = c.in_ok-second-in-Port-default-eq0 in
    symbol_known c.args.symbols.now c.args.self.now c.in-Port-default-eq0.other.0 ok.second c.requires (sym c.symbol-in-Port-default-eq0.ensures ∙ ok.was {u = tt})

pub returns-in_ok-second-in-Port-default-eq0 : goal.returns-in_ok-second-in-Port-default-eq0
returns-in_ok-second-in-Port-default-eq0 c =
    let n = c.args.self.now in
    let whole = subst IsWhole c.self.view_is c.self.invariant in
    let at = c.in-Port-default-eq0 in
    let ok = c.in_ok-second-in-Port-default-eq0 in
    let active : AreActive n c.args.agent at.other = c.partner.ensures ∙ ap Some (at.is ∙ ap (λ z. Port at.other z) at.field-1-test) in
    ordered_pair c.args.symbols.now n c.args.agent at.other c.in_ok-first.first ok.second c.in_order.result whole active (sym c.symbol.ensures ∙ c.in_ok-first.was {u = tt}) (sym c.symbol-in-Port-default-eq0.ensures ∙ ok.was {u = tt}) c.if-agent-other.true c.in_order.ensures

pub returns-in_default : goal.returns-in_default
returns-in_default c =
    let n = c.args.self.now in
    let whole = subst IsWhole c.self.view_is c.self.invariant in
    let at = c.in-Port-default-eq0 in
    let active : AreActive n c.args.agent at.other = c.partner.ensures ∙ ap Some (at.is ∙ ap (λ z. Port at.other z) at.field-1-test) in
    λ b h. (
    let same = one_partner c.args.symbols.now n c.args.agent at.other b active h in
    subst (λ (y : AgentNo). y.0 < c.args.agent.0) same (not_below c.args.symbols.now n whole c.args.agent at.other active c.if-agent-other.false)
    )
