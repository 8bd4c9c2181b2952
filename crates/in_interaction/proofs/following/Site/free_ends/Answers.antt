use Rattle.std.proofs.Common.{◌≡◌, ◌+◌, ◌∷◌, ◌++◌, [], ℕ, Some, List, length, length-append, slice_get, sym, ap, subst, ◌∙◌, arith}
use Rattle.in_interaction.specs.Following.{IsPartnerAfter}
use Rattle.in_net.specs.Nets as nets
use Rattle.in_net.specs.declared.nets.Point.{Point}
use Rattle.in_interaction.proofs.Stepping.Cells.{more_outer}
use Rattle.in_interaction.proofs.following.Site.free_ends.Goals as goal

pub loop-number-preserved : goal.loop-number-preserved
loop-number-preserved c =
    let s = c.args.self.now in
    let old = c.loop-number.ends in
    let q = c.outer.result in
    let many = c.loop-number.invariant.many in
    let pushed : c.push.new.self ≡ old ++ q ∷ [] = (c.in_ok-push.ensures {u = tt}).ok in
    let here : IsPartnerAfter s (nets.Free (length old)) q = subst (λ (k : ℕ). IsPartnerAfter s (nets.Free k) q) (sym many) c.outer.ensures in
    record {
      many = ap length pushed ∙ (let n : length (old ++ q ∷ []) ≡ c.loop-number.number + 1 = omega (arith, length-append old (q ∷ []), many) in n);
      each = λ k p got. more_outer s old q c.loop-number.invariant.each here k p (subst (λ (ps : List Point). slice_get ps k ≡ Some p) pushed got);
    }
