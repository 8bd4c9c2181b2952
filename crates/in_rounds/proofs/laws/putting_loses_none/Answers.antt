use Rattle.std.proofs.Common.{ap, ◌∙◌}
use Rattle.in_rounds.specs.Gathers.{GatherParts, bags_of}
use Rattle.in_rounds.specs.Holding.{holders}
use Rattle.in_rounds.proofs.Keeping.{put_holders}
use Rattle.in_rounds.proofs.laws.putting_loses_none.Goals as goal

pub returns : goal.returns
returns c = λ g h d u puts n. ap (λ (z : GatherParts). holders n (bags_of z.slots)) puts.2 ∙ put_holders n g.slots d.job d puts.1
