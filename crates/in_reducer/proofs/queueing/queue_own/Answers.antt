use Rattle.std.proofs.Common.{◌∙◌, arith}
use Rattle.in_reducer.proofs.Pairs.Queued.{one_more_own}
use Rattle.in_reducer.proofs.queueing.queue_own.Goals as goal

pub loop-number-preserved : goal.loop-number-preserved
loop-number-preserved c = record {
  items = one_more_own c.args.placed.now.cells c.args.member.now.pairs c.loop-number.number c.pair-one.result c.cell.result c.cell-in-loop-number.result c.args.queue.now.items c.loop-number.queue.items c.push_back_reserved.new.self.items
      c.pair-one.ensures c.cell.ensures c.cell-in-loop-number.ensures c.loop-number.invariant.items c.push_back_reserved.ensures.items;
  long = omega arith;
  capacity = c.push_back_reserved.ensures.capacity ∙ c.loop-number.invariant.capacity;
}
