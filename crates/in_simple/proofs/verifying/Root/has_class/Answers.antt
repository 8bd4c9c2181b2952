use Rattle.std.proofs.Common.{subst}
use Rattle.in_simple.specs.Checking.{IsOpenAt, ends_at}
use Rattle.in_simple.proofs.VerifyGraft.{open_more}
use Rattle.in_simple.proofs.verifying.Root.has_class.Goals as goal

pub loop-wire-preserved : goal.loop-wire-preserved
loop-wire-preserved c =
    let o = c.args.self.now.net.now in
    let k = c.loop-wire.wire in
    open_more o c.args.self.now.node c.args.class c.args.built.now.ends k c.loop-wire.invariant
    (subst (λ z. IsOpenAt o c.args.self.now.node c.args.class k (ends_at z k)) c.as_slice.ensures (c.is_open_at.ensures.0 c.if-not-is_open_at.false))
