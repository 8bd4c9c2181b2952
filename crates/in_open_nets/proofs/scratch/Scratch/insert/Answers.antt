use Rattle.std.proofs.Common.{true, ◌∙◌, ap}
use Rattle.std.proofs.Math.ListN.{set}
use Rattle.in_open_nets.proofs.PartsOf.Marks.{has_mark}
use Rattle.in_open_nets.proofs.scratch.Scratch.insert.Goals as goal

pub mark-self-inside-requires-clause-number : goal.mark-self-inside-requires-clause-number
mark-self-inside-requires-clause-number c = has_mark c.self.inside.last c.self.inside.marks c.args.self.now c.args.number c.self.view_is c.requires

pub returns : goal.returns
returns c = c.mark-self-inside.ensures.set ∙ ap (λ z. set z c.args.number true) c.self.view_is
