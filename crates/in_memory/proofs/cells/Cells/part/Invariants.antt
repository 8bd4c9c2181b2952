use Rattle.in_memory.specs.Splitting.{is_no}
use Rattle.in_memory.proofs.cells.Cells.part.Given as goal

abbrev pub ghost-part_by : goal.ghost-part_by
ghost-part_by g a = is_no a.by.now
