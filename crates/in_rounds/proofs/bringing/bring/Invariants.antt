use Rattle.std.proofs.Common.{◌≡◌, ◌++◌, All, vec_len}
use Rattle.in_rounds.specs.Dones.{DoneParts}
use Rattle.in_rounds.specs.Gathers.{bags_of}
use Rattle.in_rounds.specs.Holding.{AreBagsOf, Returns}
use Rattle.in_rounds.specs.Bringing.{in_hand, AreMadeWith}
use Rattle.in_rounds.specs.Works.{bags}
use Rattle.in_rounds.proofs.bringing.bring.Given as goal

abbrev pub invariant-loop-one : goal.invariant-loop-one
invariant-loop-one l = record {
  returns : Returns (in_hand l.fn.hand ++ bags_of l.fn.gather.slots) (bags l.done.items ++ bags_of l.gather.slots) l.fn.arena l.arena;
  bags : AreBagsOf (bags l.done.items ++ bags_of l.gather.slots) l.arena;
  jobs : l.gather.jobs ≡ l.fn.gather.jobs;
  done : All (λ (d : DoneParts). d.templates ≡ l.templates) l.done.items;
  made : AreMadeWith l.templates l.gather.slots;
}

abbrev pub decreases-loop-one : goal.decreases-loop-one
decreases-loop-one l = vec_len l.done
