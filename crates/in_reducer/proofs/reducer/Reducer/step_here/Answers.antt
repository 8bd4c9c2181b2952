use Rattle.in_reducer.proofs.Numbers.SameKind.{same_self}
use Rattle.in_reducer.proofs.reducer.Reducer.step_here.Goals as goal

pub returns-else-is_unmarked : goal.returns-else-is_unmarked
returns-else-is_unmarked g c = (c.args.self.now, same_self c.args.self.now, c.step_beside.ensures)
