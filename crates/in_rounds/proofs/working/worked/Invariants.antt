use Rattle.std.proofs.Common.{◌+◌, ◌≤◌, vec_len, vec_capacity, All}
use Rattle.in_rounds.specs.Works.{IsEmptyRoom, Works}
use Rattle.in_rounds.proofs.working.worked.Given as goal

abbrev pub invariant-loop-plan : goal.invariant-loop-plan
invariant-loop-plan g l = record {
  works : Works l.plan l.fn.hand (record { seat = l.seat; stock = l.stock; rooms = l.rooms; done = l.done });
  rooms : All (IsEmptyRoom l.plan.templates.templates l.fn.hand.stock) l.rooms.items;
  list : vec_len l.done + vec_len l.rooms ≤ vec_capacity l.done;
}

abbrev pub decreases-loop-plan : goal.decreases-loop-plan
decreases-loop-plan g l = vec_len l.rooms
