use Rattle.std.proofs.Common.{length}
use Rattle.in_export.specs.Parts.{symbol_text}
use Rattle.in_export.proofs.Arrays.{is_written}
use Rattle.in_export.proofs.symbols.add_symbols.Given as goal

abbrev pub invariant-loop-number : goal.invariant-loop-number
invariant-loop-number l = is_written (symbol_text l.symbols) (length l.symbols.names) l.number l.fn.bytes.items l.bytes.items
