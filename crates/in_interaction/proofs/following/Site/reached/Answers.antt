use Rattle.std.proofs.Common.{◌≡◌, ◌<◌, List, Some, length, slice_get, slice_index_or, sym, subst, ap, ◌∙◌}
use Rattle.std.proofs.lemmas.Option.{slice_get_within, get_or_from_slice_get}
use Rattle.in_interaction.specs.Following.{SiteParts, IsSite}
use Rattle.in_interaction.specs.Interacting.{unused}
use Rattle.in_net.specs.Interactions.{Outer}
use Rattle.in_interaction.specs.Making.{LeadsTo, side_of}
use Rattle.in_net.specs.Parts.{Parts, IsPointOf, partner_in}
use Rattle.in_interaction.specs.declared.making.Reached.TheVariants.{End, Staying}
use Rattle.in_interaction.specs.declared.making.Side.{Side}
use Rattle.in_net.specs.declared.nets.AgentNo.{AgentNo}
use Rattle.in_net.specs.declared.nets.Point.TheVariants.{Port, Free}
use Rattle.in_net.proofs.Public.{has_partner}
use Rattle.in_interaction.proofs.Stepping.Reaching.{port_is_point, outer_end, end_wire, outer_stays, inner_end, inner_named, inner_stays}
use Rattle.in_interaction.proofs.following.Site.reached.Goals as goal

pub partner-point-requires : goal.partner-point-requires
partner-point-requires c =
    let s = c.args.self.now in
    let site = subst IsSite c.self.view_is c.self.invariant in
    subst (λ (n : Parts). IsPointOf n c.port_of.result) (sym (ap (λ (s : SiteParts). s.net) c.self.view_is)) (subst (IsPointOf s.net) (sym c.port_of.ensures) (port_is_point s site c.args.end c.requires))

pub bounds-self-inside-agent : goal.bounds-self-inside-agent
bounds-self-inside-agent c =
    let s = c.args.self.now in
    let site = subst IsSite c.self.view_is c.self.invariant in
    let member : c.member.result.now ≡ s.rule.member = c.member.ensures ∙ ap (λ (s : SiteParts). s.rule.member) c.self.view_is in
    let wire = subst (λ (m : Parts). partner_in m (Free c.args.end) ≡ Some c.partner.result) member c.partner.ensures ∙ ap Some c.in-Port.is in
    subst (λ (names : List AgentNo). c.in-Port.agent.0 < length names) (sym (ap (λ (s : SiteParts). s.names) c.self.view_is))
    (slice_get_within s.names c.in-Port.agent.0 _ (inner_named s site site.over.0 site.over.1 c.args.end c.in-Port.place c.in-Port.agent wire))

pub returns-in-Some : goal.returns-in-Some
returns-in-Some c =
    let s = c.args.self.now in
    let site = subst IsSite c.self.view_is c.self.invariant in
    let p = c.partner-point.result in
    let wire = ap (partner_in s.net) (sym c.port_of.ensures) ∙ subst (λ (n : Parts). partner_in n c.port_of.result ≡ Some p) (ap (λ (s : SiteParts). s.net) c.self.view_is) c.partner-point.ensures in
    let is = sym c.end_of.ensures ∙ c.in-Some.is in
    let leads : LeadsTo s Outer c.args.end (End c.in-Some.next) =
    ((outer_end s site site.over.0 site.over.1 c.args.end c.in-Some.next p wire is).0, (λ t can. (outer_end s site t can c.args.end c.in-Some.next p wire is).1)) in
    subst (λ (z : Side). LeadsTo s (side_of z) c.args.end (End c.in-Some.next)) (sym c.in-Outer.is) leads

pub returns-in-None : goal.returns-in-None
returns-in-None c =
    let s = c.args.self.now in
    let site = subst IsSite c.self.view_is c.self.invariant in
    let p = c.partner-point.result in
    let wire = ap (partner_in s.net) (sym c.port_of.ensures) ∙ subst (λ (n : Parts). partner_in n c.port_of.result ≡ Some p) (ap (λ (s : SiteParts). s.net) c.self.view_is) c.partner-point.ensures in
    let is = sym c.end_of.ensures ∙ c.in-None.is in
    subst (λ (z : Side). LeadsTo s (side_of z) c.args.end (Staying p)) (sym c.in-Outer.is)
    (λ t can. (end_wire s site t can c.args.end p wire, outer_stays s site t can c.args.end p wire is))

pub returns-in-Port : goal.returns-in-Port
returns-in-Port c =
    let s = c.args.self.now in
    let site = subst IsSite c.self.view_is c.self.invariant in
    let member : c.member.result.now ≡ s.rule.member = c.member.ensures ∙ ap (λ (s : SiteParts). s.rule.member) c.self.view_is in
    let wire = subst (λ (m : Parts). partner_in m (Free c.args.end) ≡ Some c.partner.result) member c.partner.ensures ∙ ap Some c.in-Port.is in
    let name : AgentNo = record { 0 = unused s.net.cells c.in-Port.agent.0 } in
    let there : slice_get c.self.inside.names.now c.in-Port.agent.0 ≡ Some name =
    subst (λ (names : List AgentNo). slice_get names c.in-Port.agent.0 ≡ Some name) (sym (ap (λ (s : SiteParts). s.names) c.self.view_is)) (inner_named s site site.over.0 site.over.1 c.args.end c.in-Port.place c.in-Port.agent wire) in
    let y : AgentNo = slice_index_or c.self.inside.names.now c.in-Port.agent.0 (record { 0 = 0 }) in
    subst (λ (z : Side). LeadsTo s (side_of z) c.args.end (Staying (Port y c.in-Port.place))) (sym c.in-Inner.is)
    (λ t can. inner_stays s site t can c.args.end c.in-Port.place c.in-Port.agent y wire (sym (get_or_from_slice_get c.self.inside.names.now c.in-Port.agent.0 name (record { 0 = 0 }) there)))

pub returns-in-Free : goal.returns-in-Free
returns-in-Free c =
    let s = c.args.self.now in
    let site = subst IsSite c.self.view_is c.self.invariant in
    let member : c.member.result.now ≡ s.rule.member = c.member.ensures ∙ ap (λ (s : SiteParts). s.rule.member) c.self.view_is in
    let wire = subst (λ (m : Parts). partner_in m (Free c.args.end) ≡ Some c.partner.result) member c.partner.ensures ∙ ap Some c.in-Free.is in
    subst (λ (z : Side). LeadsTo s (side_of z) c.args.end (End c.in-Free.next)) (sym c.in-Inner.is)
    (has_partner s.rule.member (Free c.in-Free.next) (Free c.args.end) (site.member.back (Free c.args.end) (Free c.in-Free.next) wire), (λ t can. inner_end s site t can c.args.end c.in-Free.next wire))
