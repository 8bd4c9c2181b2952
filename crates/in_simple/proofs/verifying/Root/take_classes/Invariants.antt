use Rattle.std.proofs.Common.{◌≤◌, drop, length}
use Rattle.in_simple.specs.Checking.{AreGathered, AreSizedBuilt, IsSizedBuilt}
use Rattle.in_simple.proofs.verifying.Root.take_classes.Given as goal

abbrev pub invariant-loop-class : goal.invariant-loop-class
invariant-loop-class l = record {
  within : l.class ≤ length l.steps;
  parts : AreSizedBuilt l.self.net.now l.parts.items;
  sized : IsSizedBuilt l.self.net.now l.built;
  gathered : AreGathered l.self.net.now l.self.node l.class (drop l.class l.steps) l.initial.parts.items l.parts.items l.built;
}

abbrev pub decreases-loop-class : goal.decreases-loop-class
decreases-loop-class l = l.class
