use Rattle.std.proofs.Common.{length}
use Rattle.in_export.specs.Parts.{free_end_text}
use Rattle.in_export.proofs.Arrays.{is_written}
use Rattle.in_export.proofs.nets.add_free_ends.Given as goal

abbrev pub invariant-loop-number : goal.invariant-loop-number
invariant-loop-number l = is_written (free_end_text l.net) (length l.net.free) l.number l.fn.bytes.items l.bytes.items
