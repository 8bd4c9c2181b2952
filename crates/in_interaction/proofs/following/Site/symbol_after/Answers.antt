use Rattle.std.proofs.Common.{◌≡◌, None, sym, subst, ap, ◌∙◌}
use Rattle.in_interaction.specs.Following.{SiteParts, IsSite}
use Rattle.in_net.specs.Parts.{Parts, symbol_in}
use Rattle.in_interaction.proofs.Stepping.Reaching.{new_symbol}
use Rattle.in_interaction.proofs.following.Site.symbol_after.Goals as goal

pub returns-in_ok-named-in-None : goal.returns-in_ok-named-in-None
returns-in_ok-named-in-None c =
    let s = c.args.self.now in
    let site = subst IsSite c.self.view_is c.self.invariant in
    let member : c.member.result.now ≡ s.rule.member = c.member.ensures ∙ ap (λ (s : SiteParts). s.rule.member) c.self.view_is in
    let old : symbol_in s.net c.args.agent.0 ≡ None = ap (λ (s : SiteParts). symbol_in s.net c.args.agent.0) (sym c.self.view_is) ∙ sym c.symbol.ensures ∙ c.in-None.is in
    let k = c.in_ok-named-in-None.field-0.0 in
    new_symbol s site c.args.agent k c.symbol-in-None.result old (c.in_ok-named-in-None.ensures {u = tt}).1 (c.symbol-in-None.ensures ∙ ap (λ (m : Parts). symbol_in m k) member)
