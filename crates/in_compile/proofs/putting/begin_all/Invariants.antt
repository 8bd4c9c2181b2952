use Rattle.std.proofs.Common.{◌≡◌, vec_capacity}
use Rattle.in_compile.specs.Putting.{AreBegunBelow}
use Rattle.in_compile.proofs.putting.begin_all.Given as goal

abbrev pub invariant-loop-agent : goal.invariant-loop-agent
invariant-loop-agent l = record {
  begun : AreBegunBelow l.member l.fn.arena l.agent l.arena l.numbers.items;
  room : vec_capacity l.numbers ≡ vec_capacity l.fn.numbers;
}
