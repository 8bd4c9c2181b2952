use Rattle.std.proofs.Common.{length}
use Rattle.in_net.specs.Parts.{wire_in}
use Rattle.in_export.specs.Parts.{wire_text}
use Rattle.in_export.proofs.Arrays.{is_written}
use Rattle.in_export.proofs.nets.add_wires.Given as goal

abbrev pub invariant-loop-number : goal.invariant-loop-number
invariant-loop-number l = is_written (λ w. wire_text (wire_in l.net w)) (length l.net.wires) l.number l.fn.bytes.items l.bytes.items
