use Rattle.std.proofs.Common.{◌≡◌, ◌≤◌, length, vec_capacity}
use Rattle.in_rounds.specs.Plans.{IsPlan}
use Rattle.in_rounds.proofs.rounding.jobs.Given as goal

abbrev pub invariant-loop-number : goal.invariant-loop-number
invariant-loop-number l = record {
  room : l.count ≤ vec_capacity l.jobs;
  count : length l.jobs.items ≡ l.number;
  plan : IsPlan (record { templates = l.templates; jobs = l.jobs.items });
}
