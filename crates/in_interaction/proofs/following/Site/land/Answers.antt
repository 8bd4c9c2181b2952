use Rattle.std.proofs.Common.{◌≡◌, ◌<◌, ◌-◌, ◌+◌, List, Some, length, sym, subst, ap, ◌∙◌, arith, slice_get}
use Rattle.std.proofs.lemmas.Option.{slice_get_within}
use Rattle.in_interaction.specs.Following.{SiteParts, IsSite, Lands, port_of, most_turns}
use Rattle.in_net.specs.Parts.{Parts, IsPointOf, partner_in}
use Rattle.in_net.specs.declared.nets.AgentNo.{AgentNo}
use Rattle.in_net.specs.declared.nets.Point.TheVariants.{Free}
use Rattle.in_net.proofs.Public.{has_partner}
use Rattle.in_base.proofs.Places.{some_same}
use Rattle.in_interaction.proofs.Stepping.Turns.{no_more, at_none, end_within, to_agent, to_end, name_is, back_within}
use Rattle.in_interaction.proofs.following.Site.land.Goals as goal

pub returns-in-None : goal.returns-in-None
returns-in-None c = λ v h. at_none c.args.self.now c.loop-turn.turn c.loop-turn.at v (omega (arith, c.loop-turn-test.true)) (c.loop-turn.invariant v h) (sym c.end_of.ensures ∙ c.in-None.is)

pub partner-requires : goal.partner-requires
partner-requires c =
    let s = c.args.self.now in
    let member : c.member.result.now ≡ s.rule.member = c.member.ensures ∙ ap (λ (s : SiteParts). s.rule.member) c.self.view_is in
    let v = c.requires.0 in
    subst (λ (m : Parts). c.in-Some.end < length m.free) (sym member) (end_within s c.loop-turn.turn c.loop-turn.at v (omega (arith, c.loop-turn-test.true)) (c.loop-turn.invariant v c.requires.1) c.in-Some.end (sym c.end_of.ensures ∙ c.in-Some.is))

pub bounds-self-inside-agent : goal.bounds-self-inside-agent
bounds-self-inside-agent c =
    let s = c.args.self.now in
    let member : c.member.result.now ≡ s.rule.member = c.member.ensures ∙ ap (λ (s : SiteParts). s.rule.member) c.self.view_is in
    let v = c.requires.0 in
    let inner = subst (λ (m : Parts). partner_in m (Free c.in-Some.end) ≡ Some c.partner.result) member c.partner.ensures ∙ ap Some c.in-Port.is in
    let y = to_agent s c.loop-turn.turn c.loop-turn.at v (omega (arith, c.loop-turn-test.true)) (c.loop-turn.invariant v c.requires.1) c.in-Some.end c.in-Port.agent c.in-Port.place (sym c.end_of.ensures ∙ c.in-Some.is) inner in
    subst (λ (names : List AgentNo). c.in-Port.agent.0 < length names) (sym (ap (λ (s : SiteParts). s.names) c.self.view_is)) (slice_get_within s.names c.in-Port.agent.0 y.0 y.1)

pub returns-in-Port : goal.returns-in-Port
returns-in-Port c = λ v h. (
    let s = c.args.self.now in
    let member : c.member.result.now ≡ s.rule.member = c.member.ensures ∙ ap (λ (s : SiteParts). s.rule.member) c.self.view_is in
    let inner = subst (λ (m : Parts). partner_in m (Free c.in-Some.end) ≡ Some c.partner.result) member c.partner.ensures ∙ ap Some c.in-Port.is in
    let y = to_agent s c.loop-turn.turn c.loop-turn.at v (omega (arith, c.loop-turn-test.true)) (c.loop-turn.invariant v h) c.in-Some.end c.in-Port.agent c.in-Port.place (sym c.end_of.ensures ∙ c.in-Some.is) inner in
    let there : slice_get c.self.inside.names.now c.in-Port.agent.0 ≡ Some y.0 = subst (λ (names : List AgentNo). slice_get names c.in-Port.agent.0 ≡ Some y.0) (sym (ap (λ (s : SiteParts). s.names) c.self.view_is)) y.1 in
    name_is s c.self.inside.names.now c.in-Port.agent c.in-Port.place y.0 _ v there y.2
    )

pub port_of-requires : goal.port_of-requires
port_of-requires c =
    let s = c.args.self.now in
    let site = subst IsSite c.self.view_is c.self.invariant in
    let member : c.member.result.now ≡ s.rule.member = c.member.ensures ∙ ap (λ (s : SiteParts). s.rule.member) c.self.view_is in
    let inner = subst (λ (m : Parts). partner_in m (Free c.in-Some.end) ≡ Some c.partner.result) member c.partner.ensures ∙ ap Some c.in-Free.is in
    back_within s site.member c.in-Some.end c.in-Free.other inner

pub partner-at-requires : goal.partner-at-requires
partner-at-requires c =
    let s = c.args.self.now in
    let v = c.requires.0 in
    let member : c.member.result.now ≡ s.rule.member = c.member.ensures ∙ ap (λ (s : SiteParts). s.rule.member) c.self.view_is in
    let inner = subst (λ (m : Parts). partner_in m (Free c.in-Some.end) ≡ Some c.partner.result) member c.partner.ensures ∙ ap Some c.in-Free.is in
    let r = to_end s c.loop-turn.turn c.loop-turn.at v (omega (arith, c.loop-turn-test.true)) (c.loop-turn.invariant v c.requires.1) c.in-Some.end c.in-Free.other (sym c.end_of.ensures ∙ c.in-Some.is) inner in
    subst (λ (n : Parts). IsPointOf n c.port_of.result) (sym (ap (λ (s : SiteParts). s.net) c.self.view_is))
    (subst (IsPointOf s.net) (sym c.port_of.ensures) (has_partner s.net (port_of s.one s.two s.first c.in-Free.other) r.0 r.1))

pub loop-turn-preserved : goal.loop-turn-preserved
loop-turn-preserved c = λ v h. (
    let s = c.args.self.now in
    let member : c.member.result.now ≡ s.rule.member = c.member.ensures ∙ ap (λ (s : SiteParts). s.rule.member) c.self.view_is in
    let inner = subst (λ (m : Parts). partner_in m (Free c.in-Some.end) ≡ Some c.partner.result) member c.partner.ensures ∙ ap Some c.in-Free.is in
    let r = to_end s c.loop-turn.turn c.loop-turn.at v (omega (arith, c.loop-turn-test.true)) (c.loop-turn.invariant v h) c.in-Some.end c.in-Free.other (sym c.end_of.ensures ∙ c.in-Some.is) inner in
    let out = subst (λ (n : Parts). partner_in n c.port_of.result ≡ Some c.partner-at.result) (ap (λ (s : SiteParts). s.net) c.self.view_is) c.partner-at.ensures in
    let same = some_same (partner_in s.net (port_of s.one s.two s.first c.in-Free.other)) r.0 c.partner-at.result r.1 (ap (partner_in s.net) (sym c.port_of.ensures) ∙ out) in
    subst (λ z. Lands s (most_turns - (c.loop-turn.turn + 1)) z v) same r.2
    )

pub unreachable-requires : goal.unreachable-requires
unreachable-requires c = no_more c.args.self.now c.loop-turn.turn c.loop-turn.at c.requires.0 c.loop-turn-test.false (c.loop-turn.invariant c.requires.0 c.requires.1)
