use Rattle.std.proofs.Common.{arith}
use Rattle.in_arena.specs.declared.content.CellClass.TheVariants.{Small}
use Rattle.in_arena.proofs.Public.{class_few}
use Rattle.in_reducer.proofs.Pairs.Queues.{short_queue}
use Rattle.in_reducer.proofs.reducer.Reducer.pairs.Goals as goal

pub overflow_cast-result : goal.overflow_cast-result
overflow_cast-result c =
    let short = short_queue _ c.self.invariant.all.net.reducer in
    let cells = c.self.invariant.all.net.reducer.cells in let few = class_few cells.0 cells.1 Small in
    omega (arith, short, few.1, c.len.ensures)
