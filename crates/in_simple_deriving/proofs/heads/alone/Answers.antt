use Rattle.std.proofs.Common.{◌+◌, sym, subst}
use Rattle.in_simple_deriving.specs.Heads.{AreAlone}
use Rattle.in_simple_deriving.proofs.Alone.{alone_more, alone_none}
use Rattle.in_simple_deriving.proofs.heads.alone.Goals as goal

pub loop-node-init : goal.loop-node-init
loop-node-init c = subst (AreAlone 0) (sym c.new-up.ensures) alone_none

pub loop-node-preserved : goal.loop-node-preserved
loop-node-preserved c = subst (AreAlone (c.loop-node.node + 1)) (sym c.in_ok-push.ensures.ok) (alone_more c.loop-node.node c.loop-node.up c.loop-node.invariant)
