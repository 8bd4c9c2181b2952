use Rattle.std.proofs.Common.{length, slice_get}
use Rattle.in_export.specs.Programs.{rule_text}
use Rattle.in_export.proofs.Arrays.{is_written}
use Rattle.in_export.proofs.programs.add_rules.Given as goal

abbrev pub invariant-loop-number : goal.invariant-loop-number
invariant-loop-number l = is_written (λ k. rule_text l.checked k (slice_get l.checked.program.rules k)) (length l.checked.program.rules) l.number l.fn.bytes.items l.bytes.items
