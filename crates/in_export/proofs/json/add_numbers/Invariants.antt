use Rattle.std.proofs.Common.{decimal, slice_index_or, length}
use Rattle.in_export.proofs.Arrays.{is_written}
use Rattle.in_export.proofs.json.add_numbers.Given as goal

abbrev pub invariant-loop-index : goal.invariant-loop-index
invariant-loop-index l = is_written (λ k. decimal (slice_index_or l.numbers k 0)) (length l.numbers) l.index l.fn.bytes.items l.bytes.items
