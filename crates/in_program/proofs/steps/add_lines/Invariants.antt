use Rattle.std.proofs.Common.{◌≡◌, ◌++◌, drop}
use Rattle.in_program.specs.Steps.{lines_from}
use Rattle.in_program.proofs.steps.add_lines.Given as goal

abbrev pub invariant-loop-number : goal.invariant-loop-number
invariant-loop-number l = l.bytes.items ++ lines_from l.symbols l.shape l.number (drop l.number l.steps) ≡ l.fn.bytes.items ++ lines_from l.symbols l.shape 0 l.steps
