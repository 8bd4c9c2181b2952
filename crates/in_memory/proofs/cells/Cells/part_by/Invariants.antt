use Rattle.in_memory.proofs.cells.Cells.part_by.Given as goal

abbrev pub ghost-part_of : goal.ghost-part_of
ghost-part_of g a = g.chosen
