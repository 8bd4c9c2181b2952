use Rattle.std.proofs.Common.{length}
use Rattle.in_net.specs.Parts.{symbol_in}
use Rattle.in_export.specs.Parts.{agent_text}
use Rattle.in_export.proofs.Arrays.{is_written}
use Rattle.in_export.proofs.nets.add_agents.Given as goal

abbrev pub invariant-loop-number : goal.invariant-loop-number
invariant-loop-number l = is_written (λ x. agent_text (symbol_in l.net x)) (length l.net.cells) l.number l.fn.bytes.items l.bytes.items
