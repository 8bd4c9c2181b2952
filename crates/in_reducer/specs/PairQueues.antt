-- Queues of pairs. All room is taken once, and only a first part of it is used while few pairs wait: this project's own choice.
use Rattle.std.specs.Prelude.{◌≤◌, ◌+◌, ◌*◌, ℕ, List, drop, length, vec_capacity}
use Rattle.in_reducer.specs.declared.pair_queue.PairQueue.TheInside.{Inside}

-- the pairs that wait, the first one first, and the number of pairs for which there is room
pub record QueueParts : Type 0 where
  pub items : List (ℕ × ℕ)
  pub room : ℕ

-- ---- inside

-- the pairs of the row from number `first` on
abbrev pub queue_view : Inside → QueueParts
queue_view q = record { items = drop q.first q.row.items; room = q.room }

-- the row is no longer than `end`, and has room up to there; there is room for twice the pairs, so that they can move to the beginning; and no more
-- pairs wait than there is room for
pub record KeepsQueue (q : Inside) : Type 0 where
  pub first : q.first ≤ length q.row.items
  pub short : length q.row.items ≤ q.end
  pub end : q.end ≤ vec_capacity q.row
  pub room : 2 * q.room ≤ vec_capacity q.row
  pub few : length q.row.items ≤ q.first + q.room
