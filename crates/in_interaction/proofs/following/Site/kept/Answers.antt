use Rattle.std.proofs.Common.{◌≡◌, ◌+◌, ◌∷◌, ◌++◌, [], ℕ, length, length-append, sym, subst, ap, ◌∙◌, arith}
use Rattle.in_interaction.specs.After.{AreEndsAfter}
use Rattle.in_interaction.specs.Following.{IsPartnerAfter}
use Rattle.in_net.specs.Nets as nets
use Rattle.in_interaction.proofs.Stepping.Cells.{more_ends}
use Rattle.in_interaction.proofs.following.Site.kept.Goals as goal

pub loop-place-preserved : goal.loop-place-preserved
loop-place-preserved c =
    let s = c.args.self.now in
    let old = c.loop-place.ends in
    let q = c.outer.result in
    let many = c.loop-place.invariant.many in
    let pushed : c.push.new.self ≡ old ++ q ∷ [] = (c.in_ok-push.ensures {u = tt}).ok in
    let at : IsPartnerAfter s (nets.Port (c.args.agent.0) (length old)) q = subst (λ (i : ℕ). IsPartnerAfter s (nets.Port (c.args.agent.0) i) q) (sym many) c.outer.ensures in
    record {
      many = ap length pushed ∙ (let n : length (old ++ q ∷ []) ≡ c.loop-place.place + 1 = omega (arith, length-append old (q ∷ []), many) in n);
      each = subst (AreEndsAfter s (c.args.agent.0)) (sym pushed) (more_ends s (c.args.agent.0) old q c.loop-place.invariant.each at);
    }
