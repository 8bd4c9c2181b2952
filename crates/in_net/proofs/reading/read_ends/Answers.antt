use Rattle.std.proofs.Common.{◌≡◌, ◌∙◌, ◌+◌, ◌-◌, ◌++◌, ◌∷◌, [], suc, ap, sym, arith, append_assoc}
use Rattle.in_net.specs.declared.reading.TextSpot.TheVariants.{End}
use Rattle.in_net.specs.Reading.{boundary_spots}
use Rattle.in_net.proofs.reading.read_ends.Goals as goal

pub loop-number-preserved : goal.loop-number-preserved
loop-number-preserved c =
    let k = c.loop-number.number in
    let n = c.args.count in
    let left : n - k ≡ suc (n - (k + 1)) = omega (arith, c.loop-number-test.true) in
    record {
      spots =
          ap (λ z. z ++ boundary_spots (k + 1) (n - (k + 1))) c.in_ok-push.ensures.ok ∙ append_assoc c.loop-number.reading.spots (End k ∷ []) (boundary_spots (k + 1) (n - (k + 1)))
          ∙ sym (ap (λ m. c.loop-number.reading.spots ++ boundary_spots k m) left) ∙ c.loop-number.invariant.spots;
      agents = c.loop-number.invariant.agents;
      joints = c.loop-number.invariant.joints;
      names = c.loop-number.invariant.names;
    }
