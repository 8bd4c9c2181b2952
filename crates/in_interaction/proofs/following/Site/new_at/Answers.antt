use Rattle.std.proofs.Common.{◌≡◌, ◌<◌, ℕ, Option, Some, None, List, length, sym, ap, subst, ◌∙◌, slice_get, arith, refl}
use Rattle.std.specs.Prelude.{option_and_then}
use Rattle.in_interaction.specs.Following.{SiteParts, IsSite}
use Rattle.in_net.specs.Parts.{cell_in}
use Rattle.in_net.specs.declared.nets.Cell.{Cell}
use Rattle.in_interaction.proofs.Stepping.Cells.{after_new, after_no_new}
use Rattle.std.proofs.lemmas.Option.{slice_get_read}
use Rattle.in_interaction.proofs.following.Site.new_at.Goals as goal

pub returns-in_ok-fresh-in-Some-cells : goal.returns-in_ok-fresh-in-Some-cells
returns-in_ok-fresh-in-Some-cells c =
    let s = c.args.self.now in
    let site = subst IsSite c.self.view_is c.self.invariant in
    let k : ℕ = c.in-Some.agent.0 in
    let named = c.in-Some.ensures {u = tt} in
    let listed : c.cells.result.now ≡ s.rule.member.cells = c.cells.ensures.cells ∙ ap (λ m. m.cells) (c.member.ensures ∙ ap (λ (s : SiteParts). s.rule.member) c.self.view_is) in
    let many = site.many in
    let within : k < length c.cells.result.now = subst (λ (cs : List (Option Cell)). k < length cs) (sym listed) (omega (arith, named.0, many)) in
    let read : slice_get s.rule.member.cells k ≡ Some c.index-cells-agent.result = subst (λ (cs : List (Option Cell)). slice_get cs k ≡ Some c.index-cells-agent.result) listed (slice_get_read c.cells.result.now _ k c.index-cells-agent.result refl within c.index-cells-agent.is) in
    let there : cell_in s.rule.member k ≡ Some c.in-Some-cells.cell = ap (option_and_then (λ (c : Option Cell). c)) read ∙ c.in-Some-cells.is in
    after_new s c.args.number.0 k c.in-Some-cells.cell c.in_ok-fresh-in-Some-cells.field-0 c.requires named.0 named.1 there (c.in_ok-fresh-in-Some-cells.ensures {u = tt})

pub returns-in-None-cells : goal.returns-in-None-cells
returns-in-None-cells c =
    let s = c.args.self.now in
    let site = subst IsSite c.self.view_is c.self.invariant in
    let k : ℕ = c.in-Some.agent.0 in
    let named = c.in-Some.ensures {u = tt} in
    let listed : c.cells.result.now ≡ s.rule.member.cells = c.cells.ensures.cells ∙ ap (λ m. m.cells) (c.member.ensures ∙ ap (λ (s : SiteParts). s.rule.member) c.self.view_is) in
    let many = site.many in
    let within : k < length c.cells.result.now = subst (λ (cs : List (Option Cell)). k < length cs) (sym listed) (omega (arith, named.0, many)) in
    let read : slice_get s.rule.member.cells k ≡ Some c.index-cells-agent.result = subst (λ (cs : List (Option Cell)). slice_get cs k ≡ Some c.index-cells-agent.result) listed (slice_get_read c.cells.result.now _ k c.index-cells-agent.result refl within c.index-cells-agent.is) in
    let there : cell_in s.rule.member k ≡ None = ap (option_and_then (λ (c : Option Cell). c)) read ∙ c.in-None-cells.is in
    after_no_new s c.args.number.0 k c.requires named.1 there
