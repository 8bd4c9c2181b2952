use Rattle.std.proofs.Common.{◌+◌, [], ◌∷◌, ap, sym, ◌∙◌}
use Rattle.in_rounds.specs.Gathers.{GatherParts, bags_of}
use Rattle.in_rounds.specs.Holding.{holders}
use Rattle.in_rounds.proofs.Keeping.{take_holders}
use Rattle.in_rounds.proofs.laws.taking_loses_none.Goals as goal

pub returns : goal.returns
returns c = λ g h job d takes n. take_holders n g.slots job d takes.0 ∙ ap (λ (z : GatherParts). holders n (d.placed.placed.bag ∷ []) + holders n (bags_of z.slots)) (sym takes.1)
