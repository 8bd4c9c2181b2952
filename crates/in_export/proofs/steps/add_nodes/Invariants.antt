use Rattle.std.proofs.Common.{length}
use Rattle.in_open_nets.specs.OpenNets.{node_in}
use Rattle.in_export.specs.Parts.{node_text}
use Rattle.in_export.proofs.Arrays.{is_written}
use Rattle.in_export.proofs.steps.add_nodes.Given as goal

abbrev pub invariant-loop-number : goal.invariant-loop-number
invariant-loop-number l = is_written (λ k. node_text (node_in l.shape k)) (length l.shape.nodes) l.number l.fn.bytes.items l.bytes.items
