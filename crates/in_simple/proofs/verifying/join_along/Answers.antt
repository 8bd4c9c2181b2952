use Rattle.std.proofs.Common.{◌≡◌, ◌-◌, ◌≤◌, true, false, length, set, ap, sym, subst, refl, arith}
use Rattle.in_simple.specs.Checking.{ends_at}
use Rattle.in_open_nets.proofs.Public.{not_both}
use Rattle.in_simple.proofs.VerifyMade.{cut_pair, cut_past, cut_refused, joint_ends, joint_refused}
use Rattle.in_simple.proofs.verifying.join_along.Goals as goal

pub returns-then-number-wires : goal.returns-then-number-wires
returns-then-number-wires c =
    let a = c.if-number-wires.true in
    let b = c.wires.ensures.count in
    ((λ e. absurd (not_both false e refl)), λ _. cut_past c.args.open.now c.args.wire c.args.a.now c.args.built.now (omega arith))

pub returns-then-not-is_joint : goal.returns-then-not-is_joint
returns-then-not-is_joint c =
    ((λ e. absurd (not_both false e refl)), λ _. joint_refused c.args.open.now c.args.wire c.args.a.now c.args.built.now (λ j. not_both c.is_joint.result (c.is_joint.ensures.1 j) c.if-not-is_joint.true))

pub bounds-as_slice-number : goal.bounds-as_slice-number
bounds-as_slice-number c =
    let a = c.if-number-wires.false in
    let b = c.wires.ensures.count in
    let d = c.beside.ensures.sized.ends in
    let e = ap length c.as_slice.ensures in
    omega arith

pub bounds-as_slice-number-then-branch : goal.bounds-as_slice-number-then-branch
bounds-as_slice-number-then-branch c =
    let a = c.if-number-wires.false in
    let b = c.wires.ensures.count in
    let d = c.beside.ensures.sized.ends in
    let e = ap length c.as_slice.ensures in
    omega arith

pub overflow_sub-first : goal.overflow_sub-first
overflow_sub-first c =
    let d = c.beside.new.built in
    let some = joint_ends c.args.open.now c.args.wire c.args.a.now c.args.built.now d (c.is_joint.ensures.0 c.if-not-is_joint.false) (c.in_ok-beside.ensures.beside.0 c.if-branch.true) in
    let some0 = some.0 in
    subst (λ z. 1 ≤ (ends_at z c.args.wire).0) (sym c.as_slice.ensures) (omega arith)

pub overflow_sub-second : goal.overflow_sub-second
overflow_sub-second c =
    let d = c.beside.new.built in
    let some = joint_ends c.args.open.now c.args.wire c.args.a.now c.args.built.now d (c.is_joint.ensures.0 c.if-not-is_joint.false) (c.in_ok-beside.ensures.beside.0 c.if-branch.true) in
    let some1 = some.1 in
    subst (λ z. 1 ≤ (ends_at z c.args.wire).1) (sym c.as_slice.ensures) (omega arith)

pub returns-else-branch : goal.returns-else-branch
returns-else-branch c = ((λ e. absurd (not_both false e refl)), λ _. cut_refused c.args.open.now c.args.wire c.args.a.now c.args.built.now (c.in_ok-beside.ensures.beside.1 c.if-branch.false))

pub returns-then-branch : goal.returns-then-branch
returns-then-branch c =
    let o = c.args.open.now in
    let v = c.args.wire in
    let d = c.beside.new.built in
    let a = c.if-number-wires.false in
    let b = c.wires.ensures.count in (
      (λ _. cut_pair o v c.args.a.now c.args.built.now d c.set.new.self (omega arith)
          (c.is_joint.ensures.0 c.if-not-is_joint.false) (c.in_ok-beside.ensures.beside.0 c.if-branch.true) c.beside.ensures.sized
          (subst (λ z. c.set.new.self ≡ set d.ends v ((ends_at z v).0 - 1, (ends_at z v).1 - 1)) c.as_slice.ensures c.set.ensures)),
      λ e. absurd (not_both true refl e),
    )
