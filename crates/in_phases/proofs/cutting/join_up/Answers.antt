use Rattle.std.proofs.Common.{◌≡◌, ◌-◌, ◌+◌, ◌<◌, ℕ, suc, subst, ◌∙◌, arith}
use Rattle.in_reducer.specs.Machines.{MachineParts}
use Rattle.in_phases.proofs.Undoing.{CanUndo, IsCutAndReduced, all_undone, can_undo}
use Rattle.in_phases.proofs.cutting.join_up.Goals as goal

-- the number of cuts that are left
one_left : (m now : MachineParts) (cuts i k : ℕ) → i < cuts → IsCutAndReduced m (cuts - i) k now → CanUndo m (cuts - (i + 1)) k now
one_left m now cuts i k low h = can_undo m now (cuts - (i + 1)) k (subst (λ (z : ℕ). IsCutAndReduced m z k now) (let z : cuts - i ≡ suc (cuts - (i + 1)) = omega (arith, low) in z) h)

pub join_last-requires-clause-two : goal.join_last-requires-clause-two
join_last-requires-clause-two c =
    let r = c.requires.cut in
    (one_left r.0 c.loop-undone.reducer c.args.cuts c.loop-undone._undone r.2 c.loop-undone-test.true (c.loop-undone.invariant.back r.0 r.1 r.2 r.3 r.4 r.5)).two

pub join_last-requires-clause-can : goal.join_last-requires-clause-can
join_last-requires-clause-can c =
    let r = c.requires.cut in
    (one_left r.0 c.loop-undone.reducer c.args.cuts c.loop-undone._undone r.2 c.loop-undone-test.true (c.loop-undone.invariant.back r.0 r.1 r.2 r.3 r.4 r.5)).join

pub loop-undone-preserved : goal.loop-undone-preserved
loop-undone-preserved c = record {
  back = λ m cut k of times reduced.
      (one_left m c.loop-undone.reducer c.args.cuts c.loop-undone._undone k c.loop-undone-test.true (c.loop-undone.invariant.back m cut k of times reduced)).after c.join_last.new.self c.join_last.ensures;
  vacant = c.join_last.ensures.vacant ∙ c.loop-undone.invariant.vacant;
}

pub returns-clause-reduces : goal.returns-clause-reduces
returns-clause-reduces c = λ m cut k of times reduced.
    (
    let done = c.loop-undone-test.false in
    all_undone m c.loop-undone.reducer k
    (subst (λ (z : ℕ). IsCutAndReduced m z k c.loop-undone.reducer) (let z : c.args.cuts - c.loop-undone._undone ≡ 0 = omega (arith, done) in z) (c.loop-undone.invariant.back m cut k of times reduced))
    )
