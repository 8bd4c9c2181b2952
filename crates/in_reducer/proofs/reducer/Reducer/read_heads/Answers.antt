use Rattle.std.proofs.Common.{subst, ◌∙◌, arith}
use Rattle.std.proofs.lemmas.List.{length-set}
use Rattle.std.proofs.lemmas.Option.{slice_get_within}
use Rattle.in_reducer.specs.Machines.{MachineParts}
use Rattle.in_reducer.specs.Templates.{HasHeadsAt}
use Rattle.in_reducer.proofs.Steps.Ahead.{each_set}
use Rattle.in_reducer.proofs.reducer.Reducer.read_heads.Goals as goal

pub loop-number-init : goal.loop-number-init
loop-number-init c = record { read = λ k h low. absurd (omega (arith, low)); many = c.told-heads }

pub loop-number-preserved : goal.loop-number-preserved
loop-number-preserved c = record {
  read = each_set (HasHeadsAt c.args.self.now) c.loop-number.heads c.loop-number.number c.heads.result c.loop-number.invariant.read
      (subst (λ (m : MachineParts). HasHeadsAt m c.loop-number.number c.heads.result) c.self.view_is c.heads.ensures);
  many = length-set c.loop-number.heads c.loop-number.number c.heads.result ∙ c.loop-number.invariant.many;
}

pub returns-clause-read : goal.returns-clause-read
returns-clause-read c = λ k h at. c.loop-number.invariant.read k h
    (let l = slice_get_within c.loop-number.heads k h at in
    let m = c.loop-number.invariant.many in
    let n = c.loop-number-test.false in
    omega (arith, l, m, n))
    at
