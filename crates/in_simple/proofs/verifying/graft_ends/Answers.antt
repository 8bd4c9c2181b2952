use Rattle.std.proofs.Common.{◌+◌, sym, subst, arith}
use Rattle.in_simple.specs.Checking.{OnGraftWire, IsGraftedTo, ends_at}
use Rattle.in_simple.proofs.VerifyGraft.{graft_more}
use Rattle.in_simple.proofs.verifying.graft_ends.Goals as goal

pub loop-wire-preserved : goal.loop-wire-preserved
loop-wire-preserved c =
    let o = c.args.open.now in
    let k = c.loop-wire.wire in
    let v = c.wire-one.result in
    let es = c.loop-wire.ends in
    let h = subst (λ z. OnGraftWire c.args.node v.0 v.1 (ends_at z k) c.in_ok-left.field-0) c.as_slice.ensures c.in_ok-left.ensures in
    let g = subst (λ z. OnGraftWire c.args.node v.0 v.1 (ends_at es k) z) c.in-Some.is h in
    let a = c.loop-wire-test.true in
    let b = c.wires-wire-end.ensures.count in
    let d = c.loop-wire.invariant.size in
    let r = c.requires in
    subst (λ z. IsGraftedTo o c.args.node c.args.ends.now z (k + 1)) (sym c.set.ensures)
    (graft_more o c.args.node c.args.ends.now es k v c.in-Some.left c.loop-wire.invariant c.wire-one.ensures (omega arith) g)
