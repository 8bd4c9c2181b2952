use Rattle.std.proofs.Common.{◌≡◌, ◌≤◌}
use Rattle.in_open_nets_of_programs.specs.OpeningRules.{places_in}
use Rattle.in_open_nets_of_programs.proofs.opening_rules.places_in.Given as goal

abbrev pub invariant-loop-place : goal.invariant-loop-place
invariant-loop-place l = record {
  count : l.count ≡ places_in l.symbols l.symbol.0 l.class l.place;
  few : l.count ≤ l.place;
}
