-- An interaction of a reducer leads to a reducer, under any numbers of the new agents.
use Rattle.std.proofs.Common.{◌≡◌, ◌+◌, ℕ, suc, Some, List, ◌++◌, map, remove, slice_get, refl, sym, ap, subst, ◌∙◌}
use Rattle.in_arena.specs.declared.content.CellCounts.{CellCounts}
use Rattle.in_typing.specs.TypedNets.{IsTypedNet}
use Rattle.in_net.specs.declared.nets.AgentNo.{AgentNo}
use Rattle.in_net.specs.Interactions.{IsRedex, redex_at}
use Rattle.in_net.specs.Nets.{Net, IsNet, net_of, signature_of}
use Rattle.in_net.specs.Rules.{RuleParts}
use Rattle.in_interaction.specs.Interacting.{CanInteract}
use Rattle.in_interaction.proofs.Public.{made_numbers, redex_in}
use Rattle.in_check.specs.Checking.{IsAccepted}
use Rattle.in_check.specs.Programs.{Program}
use Rattle.in_check.specs.Systems.{IsSoundRule, rule_in, system_of}
use Rattle.in_check.specs.Plain.{IsRuleAt, IsPairAt}
use Rattle.in_check.proofs.Public.{is_sound, AreOpposed, opposed_in}
use Rattle.in_base.proofs.Places.{to_mapped}
use Rattle.in_order.specs.PartRuns.{Run}
use Rattle.in_order.specs.Reducible.{IsReducible}
use Rattle.in_order.proofs.Public.{reducible_as_promised, reducible_steps_under_names}
use Rattle.in_interaction.specs.Queues.{IsQueueOf, agents_at, numbers_of, both}
use Rattle.in_compile.specs.Cells.{agents_of, count_of}
use Rattle.in_reducer.specs.Laws.{ReducersAsPromised, StepsKeepReducers}
use Rattle.in_reducer.specs.Machines.{MachineParts, HasCells, parts_of, plain_of}
use Rattle.in_reducer.specs.Reducers.{IsReducer}
use Rattle.in_reducer.specs.Steps.{StepsAt}
use Rattle.in_reducer.proofs.Starts.Accepted.{one_rule}
use Rattle.in_reducer.proofs.Pairs.Requeued.{is_queue_after}
use Rattle.in_syntax.specs.declared.text_limits.TextLimits.{TextLimits}

-- ---- a reducer and a rule of its program

module _ (m : MachineParts) (h : IsReducer m) where
  pub net_at : IsNet (signature_of m.program.tables) (net_of (parts_of m))
  net_at = h.net.sound.net

  pub opposed_at : AreOpposed m.program.tables (parts_of m)
  opposed_at = opposed_in m.program.tables (parts_of m) h.net.sound.typed

  module _ (k : ℕ) (r : RuleParts) (stands : slice_get m.program.rules k ≡ Some r) where
    sound_rule : IsSoundRule (system_of m.program) (rule_in r)
    sound_rule = (is_sound h.accepted.0 h.accepted.1 m.program h.accepted.2).rule k (rule_in r) (to_mapped rule_in m.program.rules k r stands)

    pub member_net : IsNet (signature_of m.program.tables) (net_of r.member)
    member_net = sound_rule.net

    pub member_typed : IsTypedNet (signature_of m.program.tables) (net_of r.member)
    member_typed = sound_rule.typed

    pub member_opposed : AreOpposed m.program.tables r.member
    member_opposed = opposed_in m.program.tables r.member sound_rule.typed

  module _ (a b : AgentNo) (at : IsPairAt (plain_of m) a b) (k : ℕ) (r : RuleParts) (is_rule : IsRuleAt (plain_of m) a b k r) where
    pub can_interact : CanInteract m.program.tables (parts_of m) r a b
    can_interact = record { net = h.net.over; rule = is_rule.over; declared = is_rule.declared; one = is_rule.one; two = is_rule.two; active = at.active }

    pub redex : IsRedex (signature_of m.program.tables) (net_of (parts_of m)) (redex_at r a.0 b.0)
    redex = redex_in m.program.tables (parts_of m) r a b net_at can_interact

pub reducers_as_promised : ReducersAsPromised
reducers_as_promised m h = reducible_as_promised h.accepted.0 h.accepted.1 (plain_of m) h.accepted.2 h.net

-- ---- one interaction

module _ (m o : MachineParts) (i : ℕ) (h : IsReducer m) (s : StepsAt m i o) where
  abbrev one : AgentNo
  one = (agents_at s.pair).0

  abbrev two : AgentNo
  two = (agents_at s.pair).1

  pub can_at : CanInteract m.program.tables (parts_of m) s.step.rule (agents_at s.pair).0 (agents_at s.pair).1
  can_at = can_interact m h one two s.active s.step.number s.step.rule s.step.is_rule

  pub inside_at : IsNet (signature_of m.program.tables) (net_of s.step.rule.member)
  inside_at = member_net m h s.step.number s.step.rule s.step.is_rule.stands

  pub redex_of_step : IsRedex (signature_of m.program.tables) (net_of (parts_of m)) (redex_at s.step.rule (agents_at s.pair).0.0 (agents_at s.pair).1.0)
  redex_of_step = redex m h one two s.active s.step.number s.step.rule s.step.is_rule

  steps_on : IsReducible (plain_of o) × ((k : ℕ) (n : Net ℕ) → Run (system_of m.program) k n (net_of (parts_of m)) → Run (system_of m.program) (suc k) n (net_of (parts_of o)))
  steps_on = reducible_steps_under_names h.accepted.0 h.accepted.1 (plain_of m) (plain_of o) one two s.name h.accepted.2 h.net s.active s.step

  queue_on : IsQueueOf m.program.tables (parts_of o) (remove m.queue i ++ (map numbers_of s.new.over ++ map (both s.name) s.new.own))
  queue_on =
      is_queue_after m.program.tables (parts_of m) s.step.rule one two s.name (parts_of o) s.new.over s.new.own m.queue i (record {
        net = net_at m h;
        inside = inside_at;
        can = can_at;
        act = s.step.acts;
        opposed = member_opposed m h s.step.number s.step.rule s.step.is_rule.stands;
        are_made = s.new.are_over;
        inner = s.new.are_own.pairs;
        queue = h.queue;
        stands = s.stands;
      })

  -- the queue, the new pairs by their two kinds
  pub queue_by_kinds : o.queue ≡ remove m.queue i ++ (map numbers_of s.new.over ++ map (both s.name) s.new.own)
  queue_by_kinds = s.queue ∙ ap (λ (z : List (ℕ × ℕ)). remove m.queue i ++ z) (made_numbers m.program.tables (parts_of m) s.step.rule one two s.name s.made s.new)

  pub queue_after : IsQueueOf o.program.tables (parts_of o) o.queue
  queue_after = subst (λ (z : Program). IsQueueOf z.tables (parts_of o) o.queue) (sym s.step.program) (subst (IsQueueOf m.program.tables (parts_of o)) (sym queue_by_kinds) queue_on)

  pub counted_after : (cells : CellCounts) → HasCells cells m → HasCells cells o
  counted_after cells counted c = ap (λ (z : Program). count_of o.vacant c + agents_of z.tables c o.agents) s.step.program ∙ s.cells c ∙ counted c

  pub accepted_after : (limits : TextLimits) (text : List ℕ) → IsAccepted limits text m.program → IsAccepted limits text o.program
  accepted_after limits text accepted = subst (λ (z : Program). IsAccepted limits text z) (sym s.step.program) accepted

  pub reducer_on : IsReducer o
  reducer_on = record {
    accepted = (h.accepted.0, h.accepted.1, accepted_after h.accepted.0 h.accepted.1 h.accepted.2);
    net = steps_on.0;
    queue = queue_after;
    cells = (h.cells.0, h.cells.1, counted_after h.cells.0 h.cells.2);
  }

pub steps_keep_reducers : StepsKeepReducers
steps_keep_reducers m o i h s = (reducer_on m o i h s, (steps_on m o i h s).1)

-- a pair has one rule
pub same_rule : (m : MachineParts) → IsReducer m → (p q : ℕ × ℕ) (j k : ℕ) (r s : RuleParts) → p ≡ q → IsRuleAt (plain_of m) (agents_at p).0 (agents_at p).1 j r → IsRuleAt (plain_of m) (agents_at q).0 (agents_at q).1 k s → r ≡ s
same_rule m h p q j k r s e x y =
    one_rule h.accepted.0 h.accepted.1 m.program h.accepted.2 (plain_of m) (agents_at q).0 (agents_at q).1 j k r s refl (subst (λ (z : ℕ × ℕ). IsRuleAt (plain_of m) (agents_at z).0 (agents_at z).1 j r) e x) y
