use Rattle.std.proofs.Common.{◌≡◌, ℕ, Some, length, slice_get}
use Rattle.in_interaction.specs.Following.{IsPartnerAfter}
use Rattle.in_net.specs.Nets as nets
use Rattle.in_net.specs.declared.nets.Point.{Point}
use Rattle.in_interaction.proofs.following.Site.free_ends.Given as goal

abbrev pub invariant-loop-number : goal.invariant-loop-number
invariant-loop-number l = record {
  many : length l.ends ≡ l.number;
  each : (k : ℕ) (q : Point) → slice_get l.ends k ≡ Some q → IsPartnerAfter l.self (nets.Free k) q;
}
