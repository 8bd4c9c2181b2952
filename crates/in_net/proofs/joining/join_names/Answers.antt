use Rattle.std.proofs.Common.{◌∙◌, ◌+◌, sym, ap, subst, arith, length, drop}
use Rattle.in_net.specs.Counting.{IsNameInside}
use Rattle.in_net.specs.Building.{no_spot, nth_spot}
use Rattle.in_net.specs.Joining.{joins_from, IsJoiningInside}
use Rattle.in_net.proofs.Wiring.Links.{from_place, all_here, all_rest}
use Rattle.in_net.proofs.Wiring.Joins.{kept}
use Rattle.in_net.proofs.joining.join_names.Goals as goal

pub loop-at-preserved : goal.loop-at-preserved
loop-at-preserved c =
    let spots = c.args.spots.now in
    let i = c.loop-at.at in
    let n = length c.args.joining.now.seen in
    let j = c.loop-at.joining in
    let here = all_here (IsNameInside n) spots i no_spot c.loop-at-test.true c.loop-at.invariant.names in
    let keeps = kept j i (nth_spot spots i) c.loop-at.invariant.inside (subst (λ m. IsNameInside m (nth_spot spots i)) (sym c.loop-at.invariant.seen) here) (omega (arith, c.loop-at-test.true, c.loop-at.invariant.count)) in
    record {
      joined = ap (joins_from (i + 1) (drop (i + 1) spots)) c.step.ensures ∙ sym (ap (λ z. joins_from i z j) (from_place spots i no_spot c.loop-at-test.true)) ∙ c.loop-at.invariant.joined;
      count = ap (λ z. length z.links) c.step.ensures ∙ keeps.links ∙ c.loop-at.invariant.count;
      seen = ap (λ z. length z.seen) c.step.ensures ∙ keeps.seen ∙ c.loop-at.invariant.seen;
      names = all_rest (IsNameInside n) spots i no_spot c.loop-at-test.true c.loop-at.invariant.names;
      inside = subst IsJoiningInside (sym c.step.ensures) keeps.inside;
    }
