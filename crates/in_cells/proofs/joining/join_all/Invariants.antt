use Rattle.std.proofs.Common.{◌≡◌, ◌+◌, ◌≤◌, vec_len, vec_capacity}
use Rattle.in_cells.proofs.OnTheWay.{IsOnTheWay}
use Rattle.in_cells.proofs.joining.join_all.Given as goal

abbrev pub invariant-loop-end : goal.invariant-loop-end
invariant-loop-end l = IsOnTheWay l.symbols l.own l.many l.end l.fn.arena l.fn.ends l.fn.made.items l.arena l.ends l.made.items × (vec_len l.made + l.end ≤ vec_capacity l.made) × (vec_capacity l.made ≡ vec_capacity l.fn.made)
