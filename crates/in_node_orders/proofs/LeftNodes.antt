-- The nodes that are left at a turn.
use Rattle.std.proofs.Common.{◌<◌, ◌≤◌, ℕ, not, nat_lt, List, length, ltb-true, ltb-false}
use Rattle.std.proofs.lemmas.Bool.{and_from, and_parts, le-ltb, lt-ltb, not-true, not_from_false}
use Rattle.in_simple_bridges.specs.Spans.{at}
use Rattle.in_open_nets.specs.Constructions.{IsIn}
use Rattle.in_open_nets.specs.OpenNets.{OpenNet}
use Rattle.in_node_orders.specs.Turns.{left_at}

module _ (o : OpenNet) (turns : List ℕ) (i n : ℕ) where
  pub left_is : IsIn n (left_at o turns i) → (n < length o.nodes) × (i ≤ at turns n)
  left_is h =
      let both = and_parts (nat_lt n (length o.nodes)) (not (nat_lt (at turns n) i)) h in
      (ltb-true n (length o.nodes) both.0, ltb-false (at turns n) i (not-true (nat_lt (at turns n) i) both.1))

  pub is_left : n < length o.nodes → i ≤ at turns n → IsIn n (left_at o turns i)
  is_left small late = and_from (nat_lt n (length o.nodes)) (not (nat_lt (at turns n) i)) (lt-ltb n (length o.nodes) small) (not_from_false (nat_lt (at turns n) i) (le-ltb (at turns n) i late))
