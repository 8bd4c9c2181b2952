use Rattle.std.proofs.Common.{length, slice_get}
use Rattle.in_export.specs.Parts.{step_text}
use Rattle.in_export.proofs.Arrays.{is_written}
use Rattle.in_export.proofs.steps.add_steps.Given as goal

abbrev pub invariant-loop-number : goal.invariant-loop-number
invariant-loop-number l = is_written (λ k. step_text (slice_get l.steps k)) (length l.steps) l.number l.fn.bytes.items l.bytes.items
