use Rattle.in_arena.specs.Words.{is_spot}
use Rattle.in_arena.proofs.arena.Arena.lease.Given as goal

abbrev pub ghost-part_by : goal.ghost-part_by
ghost-part_by a = is_spot a.by.now.class a.by.now.cells a.by.now.index
