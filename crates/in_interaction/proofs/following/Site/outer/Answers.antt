use Rattle.std.proofs.Common.{◌≡◌, Some, sym, subst, ap}
use Rattle.in_interaction.specs.Following.{SiteParts, IsSite}
use Rattle.in_net.specs.Nets.{coded_point, point_of}
use Rattle.in_net.specs.Parts.{Parts, IsPointOf, partner_in}
use Rattle.in_interaction.proofs.Stepping.Partners.{outer_at, partner_is}
use Rattle.in_interaction.proofs.following.Site.outer.Goals as goal

pub partner-requires : goal.partner-requires
partner-requires c = subst (λ (n : Parts). IsPointOf n c.args.point) (sym (ap (λ (s : SiteParts). s.net) c.self.view_is)) c.requires.0

pub land-requires : goal.land-requires
land-requires c =
    let s = c.args.self.now in
    let site = subst IsSite c.self.view_is c.self.invariant in
    let wire = subst (λ (n : Parts). partner_in n c.args.point ≡ Some c.partner.result) (ap (λ (s : SiteParts). s.net) c.self.view_is) c.partner.ensures in
    let r = outer_at s site site.over.0 site.over.1 c.args.point c.partner.result c.requires wire in
    (coded_point r.0, r.2)

pub returns : goal.returns
returns c = λ t can. (
    let s = c.args.self.now in
    let site = subst IsSite c.self.view_is c.self.invariant in
    let wire = subst (λ (n : Parts). partner_in n c.args.point ≡ Some c.partner.result) (ap (λ (s : SiteParts). s.net) c.self.view_is) c.partner.ensures in
    let r = outer_at s site t can c.args.point c.partner.result c.requires wire in
    partner_is s t (point_of c.args.point) r.0 c.land.result (c.land.ensures (coded_point r.0) r.2) r.1
    )
