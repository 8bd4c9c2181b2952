use Rattle.std.proofs.Common.{arith}
use Rattle.in_harness.proofs.phases.share.Goals as goal

pub returns : goal.returns
returns c = let least = c.min.ensures in omega (arith, least)
