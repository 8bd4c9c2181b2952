use Rattle.std.proofs.Common.{vec_len}
use Rattle.in_rounds.specs.Gathers.{bags_of}
use Rattle.in_rounds.specs.Holding.{AreBagsOf, Returns}
use Rattle.in_rounds.proofs.gather.spend_all.Given as goal

abbrev pub invariant-loop-slot : goal.invariant-loop-slot
invariant-loop-slot l = record {
  of : AreBagsOf (bags_of l.slots.items) l.arena;
  back : Returns (bags_of l.fn.slots.items) (bags_of l.slots.items) l.fn.arena l.arena;
}

abbrev pub decreases-loop-slot : goal.decreases-loop-slot
decreases-loop-slot l = vec_len l.slots
