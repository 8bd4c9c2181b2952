use Rattle.std.proofs.Common.{◌≡◌, length}
use Rattle.in_open_nets_of_programs.specs.Opening.{Each}
use Rattle.in_open_nets_of_programs.proofs.opening_rules.ports.Given as goal

abbrev pub invariant-loop-port : goal.invariant-loop-port
invariant-loop-port l = record { size : length l.ports ≡ l.port; numbers : Each (λ i k. k ≡ i) l.ports }
