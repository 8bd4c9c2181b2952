use Rattle.std.proofs.Common.{inl, inr}
use Rattle.in_open_nets.proofs.Public.{wire_read, not_both}
use Rattle.in_simple.proofs.verifying.Root.is_open_at.Goals as goal

pub is_open_for-requires : goal.is_open_for-requires
is_open_for-requires c =
    c.requires.net.net.points c.args.wire c.wire-one.result.0 c.wire-one.result.1 (inl (wire_read c.args.self.now.net.now c.args.wire c.wire-one.result c.wire-one.ensures))

pub is_open_for-requires-then-is_open_for : goal.is_open_for-requires-then-is_open_for
is_open_for-requires-then-is_open_for c =
    c.requires.net.net.points c.args.wire c.wire-one.result.1 c.wire-one.result.0 (inr (wire_read c.args.self.now.net.now c.args.wire c.wire-one.result c.wire-one.ensures))

pub returns-else-is_open_for : goal.returns-else-is_open_for
returns-else-is_open_for c =
    let h = wire_read c.args.self.now.net.now c.args.wire c.wire-one.result c.wire-one.ensures in (
      (λ t. absurd (not_both c.is_open_for.result t c.if-is_open_for.false)),
      λ all. c.is_open_for.ensures.1 (all c.wire-one.result.0 c.wire-one.result.1 h).0,
    )
