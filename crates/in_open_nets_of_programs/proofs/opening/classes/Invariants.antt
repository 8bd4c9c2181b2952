use Rattle.std.proofs.Common.{◌≡◌, length}
use Rattle.in_symbols.specs.Tables.{class_at}
use Rattle.in_open_nets_of_programs.specs.Opening.{Each}
use Rattle.in_open_nets_of_programs.proofs.opening.classes.Given as goal

abbrev pub invariant-loop-place : goal.invariant-loop-place
invariant-loop-place l = record {
  count : length l.classes ≡ l.place;
  each : Each (λ i c. c ≡ class_at l.symbols l.symbol.0 i) l.classes;
}
