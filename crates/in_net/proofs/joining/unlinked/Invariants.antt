use Rattle.std.proofs.Common.{◌≡◌, ◌++◌, ◌-◌}
use Rattle.in_net.specs.Joining.{self_links}
use Rattle.in_net.proofs.joining.unlinked.Given as goal

abbrev pub invariant-loop-to : goal.invariant-loop-to
invariant-loop-to l = l.links ++ self_links l.to (l.count - l.to) ≡ self_links 0 l.count
