use Rattle.std.proofs.Common.{arith}
use Rattle.in_reducer.proofs.Parts.Turns.{turn_done}
use Rattle.in_reducer.proofs.gluing.add_free_in_turn.Goals as goal

pub loop-cut-preserved : goal.loop-cut-preserved
loop-cut-preserved c = record {
  items = turn_done _ _ _ _ _ _ _ _ _ (omega arith) (omega arith) c.loop-cut.invariant.items c.push_reserved.ensures.items c.push_reserved-in-loop-cut.ensures.items;
  long = omega arith;
  capacity = omega arith;
}
