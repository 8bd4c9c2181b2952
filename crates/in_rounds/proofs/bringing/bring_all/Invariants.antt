use Rattle.std.proofs.Common.{◌≡◌, ◌++◌, vec_len}
use Rattle.in_rounds.specs.Gathers.{bags_of}
use Rattle.in_rounds.specs.Holding.{AreBagsOf, Returns}
use Rattle.in_rounds.specs.Bringing.{in_hands, AreMadeWith, HandsAreMadeWith}
use Rattle.in_rounds.proofs.bringing.bring_all.Given as goal

abbrev pub invariant-loop-hand : goal.invariant-loop-hand
invariant-loop-hand l = record {
  returns : Returns (in_hands l.fn.hands.items ++ bags_of l.fn.gather.slots) (in_hands l.hands.items ++ bags_of l.gather.slots) l.fn.arena l.arena;
  bags : AreBagsOf (in_hands l.hands.items ++ bags_of l.gather.slots) l.arena;
  jobs : l.gather.jobs ≡ l.fn.gather.jobs;
  hands : HandsAreMadeWith l.templates l.hands.items;
  made : AreMadeWith l.templates l.gather.slots;
}

abbrev pub decreases-loop-hand : goal.decreases-loop-hand
decreases-loop-hand l = vec_len l.hands
