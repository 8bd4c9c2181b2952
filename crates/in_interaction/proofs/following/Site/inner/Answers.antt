use Rattle.std.proofs.Common.{◌≡◌, ◌<◌, List, Some, length, slice_get, sym, subst, ap, ◌∙◌}
use Rattle.std.proofs.lemmas.Option.{slice_get_within, get_or_from_slice_get}
use Rattle.in_interaction.specs.Following.{SiteParts, IsSite, NewPort, Lands, most_turns, port_of}
use Rattle.in_interaction.specs.Interacting.{unused}
use Rattle.in_net.specs.Nets.{coded_point}
use Rattle.in_net.specs.Nets as nets
use Rattle.in_net.specs.Parts.{Parts, IsPointOf, partner_in}
use Rattle.in_net.specs.declared.nets.AgentNo.{AgentNo}
use Rattle.in_net.specs.declared.nets.Point.{Point}
use Rattle.in_net.specs.declared.nets.Point.TheVariants.{Port, Free}
use Rattle.in_net.proofs.Public.{has_partner}
use Rattle.in_interaction.proofs.Stepping.Partners.{name_at, inner_port, inner_free, partner_is}
use Rattle.in_base.proofs.Places.{some_same}
use Rattle.in_interaction.proofs.following.Site.inner.Goals as goal

pub partner-requires : goal.partner-requires
partner-requires c =
    subst (λ (m : Parts). IsPointOf m (Port c.args.agent c.args.place)) (sym (c.member.ensures ∙ ap (λ (s : SiteParts). s.rule.member) c.self.view_is)) c.requires

pub bounds-self-inside-other : goal.bounds-self-inside-other
bounds-self-inside-other c =
    let s = c.args.self.now in
    let site = subst IsSite c.self.view_is c.self.invariant in
    let member : c.member.result.now ≡ s.rule.member = c.member.ensures ∙ ap (λ (s : SiteParts). s.rule.member) c.self.view_is in
    let wire = subst (λ (m : Parts). partner_in m (Port c.args.agent c.args.place) ≡ Some c.partner.result) member c.partner.ensures ∙ ap Some c.in-Port.is in
    subst (λ (names : List AgentNo). c.in-Port.other.0 < length names) (sym (ap (λ (s : SiteParts). s.names) c.self.view_is)) (slice_get_within s.names c.in-Port.other.0 _ (name_at s site c.args.agent c.in-Port.other c.args.place c.in-Port.there wire))

pub returns-in-Port : goal.returns-in-Port
returns-in-Port c = λ t can. (
    let s = c.args.self.now in
    let site = subst IsSite c.self.view_is c.self.invariant in
    let member : c.member.result.now ≡ s.rule.member = c.member.ensures ∙ ap (λ (s : SiteParts). s.rule.member) c.self.view_is in
    let wire = subst (λ (m : Parts). partner_in m (Port c.args.agent c.args.place) ≡ Some c.partner.result) member c.partner.ensures ∙ ap Some c.in-Port.is in
    let name : AgentNo = record { 0 = unused s.net.cells c.in-Port.other.0 } in
    let there : slice_get c.self.inside.names.now c.in-Port.other.0 ≡ Some name =
    subst (λ (names : List AgentNo). slice_get names c.in-Port.other.0 ≡ Some name) (sym (ap (λ (s : SiteParts). s.names) c.self.view_is)) (name_at s site c.args.agent c.in-Port.other c.args.place c.in-Port.there wire) in
    partner_is s t (NewPort s c.args.agent c.args.place) (nets.Port (unused s.net.cells c.in-Port.other.0) c.in-Port.there) _
    (ap (λ (y : AgentNo). Port y c.in-Port.there) (get_or_from_slice_get c.self.inside.names.now c.in-Port.other.0 name _ there))
    (inner_port s site t can c.args.agent c.in-Port.other c.args.place c.in-Port.there wire)
    )

pub port_of-requires : goal.port_of-requires
port_of-requires c =
    let s = c.args.self.now in
    let site = subst IsSite c.self.view_is c.self.invariant in
    let member : c.member.result.now ≡ s.rule.member = c.member.ensures ∙ ap (λ (s : SiteParts). s.rule.member) c.self.view_is in
    let wire = subst (λ (m : Parts). partner_in m (Port c.args.agent c.args.place) ≡ Some c.partner.result) member c.partner.ensures ∙ ap Some c.in-Free.is in
    has_partner s.rule.member (Free c.in-Free.end) (Port c.args.agent c.args.place) (site.member.back (Port c.args.agent c.args.place) (Free c.in-Free.end) wire)

pub partner-requires-in-Free : goal.partner-requires-in-Free
partner-requires-in-Free c =
    let s = c.args.self.now in
    let site = subst IsSite c.self.view_is c.self.invariant in
    let member : c.member.result.now ≡ s.rule.member = c.member.ensures ∙ ap (λ (s : SiteParts). s.rule.member) c.self.view_is in
    let wire = subst (λ (m : Parts). partner_in m (Port c.args.agent c.args.place) ≡ Some c.partner.result) member c.partner.ensures ∙ ap Some c.in-Free.is in
    let r = inner_free s site site.over.0 site.over.1 c.args.agent c.args.place c.in-Free.end wire in
    subst (λ (n : Parts). IsPointOf n c.port_of.result) (sym (ap (λ (s : SiteParts). s.net) c.self.view_is))
    (subst (IsPointOf s.net) (sym c.port_of.ensures) (has_partner s.net (port_of s.one s.two s.first c.in-Free.end) r.2.0 r.2.1))

pub land-requires : goal.land-requires
land-requires c =
    let s = c.args.self.now in
    let site = subst IsSite c.self.view_is c.self.invariant in
    let member : c.member.result.now ≡ s.rule.member = c.member.ensures ∙ ap (λ (s : SiteParts). s.rule.member) c.self.view_is in
    let wire = subst (λ (m : Parts). partner_in m (Port c.args.agent c.args.place) ≡ Some c.partner.result) member c.partner.ensures ∙ ap Some c.in-Free.is in
    let r = inner_free s site site.over.0 site.over.1 c.args.agent c.args.place c.in-Free.end wire in
    let out = subst (λ (n : Parts). partner_in n c.port_of.result ≡ Some c.partner-in-Free.result) (ap (λ (s : SiteParts). s.net) c.self.view_is) c.partner-in-Free.ensures in
    let same = some_same (partner_in s.net (port_of s.one s.two s.first c.in-Free.end)) r.2.0 c.partner-in-Free.result r.2.1 (ap (partner_in s.net) (sym c.port_of.ensures) ∙ out) in
    let lands = subst (λ (z : Point). Lands s most_turns z (coded_point r.0)) same r.2.2 in
    (coded_point r.0, lands)

pub returns-in-Free : goal.returns-in-Free
returns-in-Free c = λ t can. (
    let s = c.args.self.now in
    let site = subst IsSite c.self.view_is c.self.invariant in
    let member : c.member.result.now ≡ s.rule.member = c.member.ensures ∙ ap (λ (s : SiteParts). s.rule.member) c.self.view_is in
    let wire = subst (λ (m : Parts). partner_in m (Port c.args.agent c.args.place) ≡ Some c.partner.result) member c.partner.ensures ∙ ap Some c.in-Free.is in
    let r = inner_free s site t can c.args.agent c.args.place c.in-Free.end wire in
    let out = subst (λ (n : Parts). partner_in n c.port_of.result ≡ Some c.partner-in-Free.result) (ap (λ (s : SiteParts). s.net) c.self.view_is) c.partner-in-Free.ensures in
    let same = some_same (partner_in s.net (port_of s.one s.two s.first c.in-Free.end)) r.2.0 c.partner-in-Free.result r.2.1 (ap (partner_in s.net) (sym c.port_of.ensures) ∙ out) in
    let lands = subst (λ (z : Point). Lands s most_turns z (coded_point r.0)) same r.2.2 in
    partner_is s t (NewPort s c.args.agent c.args.place) r.0 c.land.result (c.land.ensures (coded_point r.0) lands) r.1
    )
