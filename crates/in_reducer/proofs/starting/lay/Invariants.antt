use Rattle.std.proofs.Common.{◌≡◌, ◌+◌, length, map, take}
use Rattle.in_reducer.specs.Inside.{most_ends}
use Rattle.in_reducer.specs.Sides.{inner_of}
use Rattle.in_reducer.proofs.starting.lay.Given as goal

abbrev pub invariant-loop-number : goal.invariant-loop-number
invariant-loop-number l = record {
  first : take l.number l.ends.items ≡ map (inner_of l.placed.cells 0) (take l.number l.start.joints);
  long : length l.ends.items ≡ l.own + most_ends + most_ends;
}
