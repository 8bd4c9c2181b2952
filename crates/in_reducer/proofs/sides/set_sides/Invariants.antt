use Rattle.std.proofs.Common.{length}
use Rattle.in_reducer.specs.Sides.{AreSetBelow}
use Rattle.in_reducer.proofs.sides.set_sides.Given as goal

abbrev pub invariant-loop-end : goal.invariant-loop-end
invariant-loop-end l = AreSetBelow l.next.pair l.arena l.next.template.now.member.joints l.next.placed.now.cells l.next.own (length l.next.template.now.member.joints) l.end l.fn.ends l.ends
