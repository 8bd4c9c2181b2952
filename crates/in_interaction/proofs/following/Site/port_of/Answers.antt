use Rattle.std.proofs.Common.{◌≡◌, ap, subst, arith}
use Rattle.in_interaction.specs.Following.{SiteParts, IsSite}
use Rattle.in_interaction.proofs.Stepping.Sites.{ends_fit}
use Rattle.in_interaction.proofs.following.Site.port_of.Goals as goal

pub overflow_cast-result-else-end-self : goal.overflow_cast-result-else-end-self
overflow_cast-result-else-end-self c =
    let fit = ends_fit c.args.self.now (subst IsSite c.self.view_is c.self.invariant) in
    let first : c.self.inside.first ≡ c.args.self.now.first = ap (λ (s : SiteParts). s.first) c.self.view_is in
    omega (arith, fit.0, fit.1, first, c.requires, c.if-end-self.false)

pub overflow_add-result-else-end-self : goal.overflow_add-result-else-end-self
overflow_add-result-else-end-self c =
    let fit = ends_fit c.args.self.now (subst IsSite c.self.view_is c.self.invariant) in
    let first : c.self.inside.first ≡ c.args.self.now.first = ap (λ (s : SiteParts). s.first) c.self.view_is in
    omega (arith, fit.0, fit.1, first, c.requires, c.if-end-self.false)
