use Rattle.std.proofs.Common.{◌≡◌, ◌++◌, drop}
use Rattle.in_program.specs.Steps.{numbers_text}
use Rattle.in_program.proofs.steps.add_numbers.Given as goal

abbrev pub invariant-loop-index : goal.invariant-loop-index
invariant-loop-index l = l.bytes.items ++ numbers_text (drop l.index l.numbers) ≡ l.fn.bytes.items ++ numbers_text l.numbers
