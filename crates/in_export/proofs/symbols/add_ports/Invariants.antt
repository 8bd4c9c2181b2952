use Rattle.std.proofs.Common.{◌+◌}
use Rattle.in_symbols.specs.Tables.{arity_of}
use Rattle.in_export.specs.Parts.{port_text}
use Rattle.in_export.proofs.Arrays.{is_written}
use Rattle.in_export.proofs.symbols.add_ports.Given as goal

abbrev pub invariant-loop-place : goal.invariant-loop-place
invariant-loop-place l = is_written (port_text l.symbols l.symbol.0) (arity_of l.symbols l.symbol.0 + 1) l.place l.fn.bytes.items l.bytes.items
