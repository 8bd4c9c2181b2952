use Rattle.std.proofs.Common.{◌≡◌, ◌≤◌, nat_lt, take}
use Rattle.std.specs.Prelude.{count_by}
use Rattle.in_open_nets_of_programs.proofs.opening_rules.agents_before.Given as goal

abbrev pub invariant-loop-agent : goal.invariant-loop-agent
invariant-loop-agent l = record {
  count : l.count ≡ count_by (λ q. nat_lt q.from l.rule.head_places.1.from) (take l.agent l.rule.member.places);
  few : l.count ≤ l.agent;
}
