use Rattle.std.proofs.Common.{take}
use Rattle.in_print.specs.Texts.{Wrote, pair_lines_in}
use Rattle.in_print.proofs.lines.pair_lines.Given as goal

abbrev pub invariant-loop-number : goal.invariant-loop-number
invariant-loop-number l = Wrote l.fn.machine l.fn.sheet l.sheet (λ d. pair_lines_in l.fn.machine d (take l.number l.fn.machine.queue))
