-- An interaction of a machine leads to a machine, under any numbers of the new agents.
use Rattle.std.proofs.Common.{◌≡◌, ℕ, suc, Some, ◌++◌, map, remove, slice_get}
use Rattle.in_net.specs.Interactions.{IsRedex, redex_at}
use Rattle.in_net.specs.Nets.{IsNet, net_of, signature_of}
use Rattle.in_net.specs.Rules.{RuleParts}
use Rattle.in_interaction.specs.Interacting.{CanInteract}
use Rattle.in_interaction.specs.Queues.{agents_at, both, numbers_of}
use Rattle.in_check.specs.NetText.{IsQueue}
use Rattle.in_check.specs.Plain.{IsPlain, IsReachedBy}
use Rattle.in_check.specs.Promises.{IsAsPromised}
use Rattle.in_check.specs.Systems.{system_of}
use Rattle.in_check.proofs.Public.{steps_under_names, AreOpposed}
use Rattle.in_order.proofs.Public.{plain_is_reducible}
use Rattle.in_reducer.specs.Machines.{MachineParts, parts_of, plain_of}
use Rattle.in_reducer.specs.Reducers.{IsReducer}
use Rattle.in_reducer.specs.Steps.{StepsAt}
use Rattle.in_reducer.proofs.Public.{reducer_promised, reducer_queue}
use Rattle.in_reducer.proofs.Public.StepsOn as reducers
use Rattle.in_machine.specs.Machines.{IsMachine}

-- ---- a machine is a reducer, and its program reaches its net

pub as_reducer : (m : MachineParts) → IsMachine m → IsReducer m
as_reducer m h = record { accepted = h.accepted; net = plain_is_reducible h.accepted.0 h.accepted.1 (plain_of m) h.accepted.2 h.plain; queue = h.queue; cells = h.cells }

pub as_machine : (m : MachineParts) → IsReducer m → IsPlain (plain_of m) → IsMachine m
as_machine m h plain = record { accepted = h.accepted; plain = plain; queue = h.queue; cells = h.cells }

module _ (m : MachineParts) (h : IsMachine m) where
  pub machine_promised : IsAsPromised (system_of m.program) (net_of (parts_of m))
  machine_promised = reducer_promised m (as_reducer m h)

  pub machine_queue : IsQueue (net_of (parts_of m)) m.queue
  machine_queue = reducer_queue m (as_reducer m h)

  pub net_at : IsNet (signature_of m.program.tables) (net_of (parts_of m))
  net_at = reducers.net_at m (as_reducer m h)

  pub opposed_at : AreOpposed m.program.tables (parts_of m)
  opposed_at = reducers.opposed_at m (as_reducer m h)

  module _ (k : ℕ) (r : RuleParts) (stands : slice_get m.program.rules k ≡ Some r) where
    pub member_opposed : AreOpposed m.program.tables r.member
    member_opposed = reducers.member_opposed m (as_reducer m h) k r stands

-- ---- one interaction

module _ (m o : MachineParts) (i : ℕ) (h : IsMachine m) (s : StepsAt m i o) where
  pub can_at : CanInteract m.program.tables (parts_of m) s.step.rule (agents_at s.pair).0 (agents_at s.pair).1
  can_at = reducers.can_at m o i (as_reducer m h) s

  pub inside_at : IsNet (signature_of m.program.tables) (net_of s.step.rule.member)
  inside_at = reducers.inside_at m o i (as_reducer m h) s

  pub redex_of_step : IsRedex (signature_of m.program.tables) (net_of (parts_of m)) (redex_at s.step.rule (agents_at s.pair).0.0 (agents_at s.pair).1.0)
  redex_of_step = reducers.redex_of_step m o i (as_reducer m h) s

  pub steps_on : IsPlain (plain_of o) × ((k : ℕ) → IsReachedBy (plain_of m) k → IsReachedBy (plain_of o) (suc k))
  steps_on = steps_under_names (plain_of m) (plain_of o) (agents_at s.pair).0 (agents_at s.pair).1 s.name h.plain s.active s.step

  pub queue_by_kinds : o.queue ≡ remove m.queue i ++ (map numbers_of s.new.over ++ map (both s.name) s.new.own)
  queue_by_kinds = reducers.queue_by_kinds m o i (as_reducer m h) s

  pub machine_on : IsMachine o
  machine_on = as_machine o (reducers.reducer_on m o i (as_reducer m h) s) steps_on.0
