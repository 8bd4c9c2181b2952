use Rattle.std.proofs.Common.{sym, subst, ◌∙◌}
use Rattle.in_interaction.specs.Following.{IsSite}
use Rattle.in_net.specs.Interactions.{Outer, Inner}
use Rattle.in_interaction.proofs.Stepping.Making.{symbol_after_known}
use Rattle.in_interaction.proofs.Stepping.Reaching.{nowhere, not_principal_port, no_symbol_there, differ, pair_there, no_pair, lands_there}
use Rattle.in_interaction.proofs.following.Site.pair_through.Goals as goal

pub returns-in_err-landing : goal.returns-in_err-landing
returns-in_err-landing c =
    let s = c.args.self.now in
    let site = subst IsSite c.self.view_is c.self.invariant in
    no_pair c.args.symbols.now s c.args.end c.from_residual.result c.from_residual.ensures (nowhere s site c.args.symbols.now c.requires.over Outer c.args.end (c.in_err-landing.ensures {u = tt}))

pub returns-in_err-one : goal.returns-in_err-one
returns-in_err-one c =
    let s = c.args.self.now in
    let site = subst IsSite c.self.view_is c.self.invariant in
    no_pair c.args.symbols.now s c.args.end c.from_residual-in_err-one.result c.from_residual-in_err-one.ensures
    (not_principal_port s site c.args.symbols.now c.requires.over Outer c.args.end c.in_ok-landing.field-0 (c.in_ok-landing.ensures {u = tt}) (sym c.principal.ensures ∙ c.in_err-one.was {u = tt}))

pub returns-in_err-landing-2 : goal.returns-in_err-landing-2
returns-in_err-landing-2 c =
    let s = c.args.self.now in
    let site = subst IsSite c.self.view_is c.self.invariant in
    no_pair c.args.symbols.now s c.args.end c.from_residual-in_err-landing-2.result c.from_residual-in_err-landing-2.ensures (nowhere s site c.args.symbols.now c.requires.over Inner c.args.end (c.in_err-landing-2.ensures {u = tt}))

pub returns-in_err-other : goal.returns-in_err-other
returns-in_err-other c =
    let s = c.args.self.now in
    let site = subst IsSite c.self.view_is c.self.invariant in
    no_pair c.args.symbols.now s c.args.end c.from_residual-in_err-other.result c.from_residual-in_err-other.ensures
    (not_principal_port s site c.args.symbols.now c.requires.over Inner c.args.end c.in_ok-landing-2.field-0 (c.in_ok-landing-2.ensures {u = tt}) (sym c.principal-2.ensures ∙ c.in_err-other.was {u = tt}))

pub returns-in_err-first : goal.returns-in_err-first
returns-in_err-first c =
    let s = c.args.self.now in
    let site = subst IsSite c.self.view_is c.self.invariant in
    let outer = lands_there s Outer c.args.end c.in_ok-landing.field-0 c.principal.result c.in_ok-one.one (c.in_ok-landing.ensures {u = tt}) c.principal.ensures (c.in_ok-one.was {u = tt}) in
    no_pair c.args.symbols.now s c.args.end c.from_residual-in_err-first.result c.from_residual-in_err-first.ensures
    (no_symbol_there s site c.args.symbols.now c.requires.over Outer c.args.end c.in_ok-one.one outer (c.in_err-first.ensures {u = tt}))

pub returns-in_err-second : goal.returns-in_err-second
returns-in_err-second c =
    let s = c.args.self.now in
    let site = subst IsSite c.self.view_is c.self.invariant in
    let inner = lands_there s Inner c.args.end c.in_ok-landing-2.field-0 c.principal-2.result c.in_ok-other.other (c.in_ok-landing-2.ensures {u = tt}) c.principal-2.ensures (c.in_ok-other.was {u = tt}) in
    no_pair c.args.symbols.now s c.args.end c.from_residual-in_err-second.result c.from_residual-in_err-second.ensures
    (no_symbol_there s site c.args.symbols.now c.requires.over Inner c.args.end c.in_ok-other.other inner (c.in_err-second.ensures {u = tt}))

pub in_order-requires-clause-one : goal.in_order-requires-clause-one
in_order-requires-clause-one c =
    let s = c.args.self.now in
    symbol_after_known c.args.symbols.now s.net s.rule s.one s.two c.in_ok-one.one c.in_ok-first.first c.requires.over (c.in_ok-first.ensures {u = tt})

pub in_order-requires-clause-other : goal.in_order-requires-clause-other
in_order-requires-clause-other c =
    let s = c.args.self.now in
    symbol_after_known c.args.symbols.now s.net s.rule s.one s.two c.in_ok-other.other c.in_ok-second.second c.requires.over (c.in_ok-second.ensures {u = tt})

pub in_order-requires-clause-differ : goal.in_order-requires-clause-differ
in_order-requires-clause-differ c =
    let s = c.args.self.now in
    let site = subst IsSite c.self.view_is c.self.invariant in
    let outer = lands_there s Outer c.args.end c.in_ok-landing.field-0 c.principal.result c.in_ok-one.one (c.in_ok-landing.ensures {u = tt}) c.principal.ensures (c.in_ok-one.was {u = tt}) in
    let inner = lands_there s Inner c.args.end c.in_ok-landing-2.field-0 c.principal-2.result c.in_ok-other.other (c.in_ok-landing-2.ensures {u = tt}) c.principal-2.ensures (c.in_ok-other.was {u = tt}) in
    differ s site c.args.symbols.now c.requires.over c.args.end c.in_ok-one.one c.in_ok-other.other outer inner

pub returns : goal.returns
returns c =
    let s = c.args.self.now in
    let site = subst IsSite c.self.view_is c.self.invariant in
    let outer = lands_there s Outer c.args.end c.in_ok-landing.field-0 c.principal.result c.in_ok-one.one (c.in_ok-landing.ensures {u = tt}) c.principal.ensures (c.in_ok-one.was {u = tt}) in
    let inner = lands_there s Inner c.args.end c.in_ok-landing-2.field-0 c.principal-2.result c.in_ok-other.other (c.in_ok-landing-2.ensures {u = tt}) c.principal-2.ensures (c.in_ok-other.was {u = tt}) in
    pair_there s site c.args.symbols.now c.requires.over c.args.end c.in_ok-one.one c.in_ok-other.other c.in_ok-first.first c.in_ok-second.second c.in_order.result outer inner
    (c.in_ok-first.ensures {u = tt}) (c.in_ok-second.ensures {u = tt}) c.in_order.ensures
