use Rattle.std.proofs.Common.{length}
use Rattle.in_symbols.specs.Names.{name_in}
use Rattle.in_export.specs.Json.{name_text}
use Rattle.in_export.proofs.Arrays.{is_written}
use Rattle.in_export.proofs.symbols.add_types.Given as goal

abbrev pub invariant-loop-kind : goal.invariant-loop-kind
invariant-loop-kind l = is_written (λ k. name_text (name_in k l.symbols.types)) (length l.symbols.types) l.kind l.fn.bytes.items l.bytes.items
