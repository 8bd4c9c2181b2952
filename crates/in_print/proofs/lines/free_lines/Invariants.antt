use Rattle.in_print.specs.Texts.{Wrote, free_lines_in}
use Rattle.in_print.proofs.lines.free_lines.Given as goal

abbrev pub invariant-loop-number : goal.invariant-loop-number
invariant-loop-number l = Wrote l.fn.machine l.fn.sheet l.sheet (λ d. free_lines_in l.fn.machine d 0 l.number)
