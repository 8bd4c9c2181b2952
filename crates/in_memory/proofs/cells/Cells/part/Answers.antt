use Rattle.std.proofs.Common.{◌∙◌}
use Rattle.in_memory.proofs.Splitting.{one_alone, all_but_one}
use Rattle.in_memory.proofs.cells.Cells.part.Goals as goal

pub returns-clause-one : goal.returns-clause-one
returns-clause-one g c = let w = c.part_by.ensures.one in (w.0, w.1 ∙ one_alone c.args.self.now.slots c.args.index)

pub returns-clause-rest : goal.returns-clause-rest
returns-clause-rest g c = let w = c.part_by.ensures.rest in (w.0, w.1 ∙ all_but_one c.args.self.now.slots c.args.index)
