-- Starts of a program: each is a machine, and two with as many cells are the same up to the numbers of their agents.
use Rattle.std.proofs.Common.{◌≡◌, ◌≤◌, ◌+◌, ℕ, zero, List, map, sym, ap, subst, ◌∙◌, arith}
use Rattle.in_arena.specs.Classes.{amount}
use Rattle.in_arena.specs.declared.content.CellClass.{CellClass}
use Rattle.in_arena.specs.declared.content.CellCounts.{CellCounts}
use Rattle.in_net.specs.Built.{IsOver}
use Rattle.in_net.specs.Nets.{IsNet, net_of, signature_of}
use Rattle.in_interaction.proofs.Public.{same_first}
use Rattle.in_check.specs.Checking.{IsAccepted}
use Rattle.in_check.specs.Plain.{IsPlain, IsReachedBy}
use Rattle.in_check.specs.Programs.{Program}
use Rattle.in_check.specs.Runs.{Reached, at_start}
use Rattle.in_check.specs.Systems.{system_of}
use Rattle.in_check.proofs.Public.{is_sound, AreOpposed, opposed_in}
use Rattle.in_interaction.specs.Queues.{IsQueueOf, both}
use Rattle.in_reducer.specs.Limiting.{AreAllowed}
use Rattle.in_compile.specs.Cells.{agents_of, count_of}
use Rattle.in_reducer.specs.Machines.{MachineParts, parts_of, plain_of}
use Rattle.in_machine.specs.Machines.{IsMachine}
use Rattle.in_reducer.specs.Starts.{IsStart}
use Rattle.in_reducer.specs.Same.{AreSame}
use Rattle.in_compile.proofs.Public.{same_need}
use Rattle.in_reducer.proofs.Public.{as_many_of, between, from_to, lives, map_same, map_twice, queue_moved, renamed_between}
use Rattle.in_syntax.specs.declared.text_limits.TextLimits.{TextLimits}

-- of the cells of each class, as many are free as the agents of the program's net leave
pub count_at : (p : Program) (cells : CellCounts) (m : MachineParts) → IsStart p cells m → (c : CellClass) → count_of m.vacant c + agents_of p.tables c p.net.cells ≡ amount cells c
count_at p cells m h c = ap (λ (k : ℕ). count_of m.vacant c + k) (as_many_of p.tables c h.name p.net (parts_of m) h.net) ∙ ap (λ (q : Program). count_of m.vacant c + agents_of q.tables c m.agents) (sym h.program) ∙ h.counted c

module _ (limits : TextLimits) (text : List ℕ) (p : Program) (accepted : IsAccepted limits text p) (cells : CellCounts) where
  net_at : IsNet (signature_of p.tables) (net_of p.net)
  net_at = (is_sound limits text p accepted).start.net

  opposed_at : AreOpposed p.tables p.net
  opposed_at = opposed_in p.tables p.net (is_sound limits text p accepted).start.typed

  module _ (m : MachineParts) (h : IsStart p cells m) where
    pub start_reached : IsReachedBy (plain_of m) 0
    start_reached = subst (λ (z : Program). Reached (system_of z) 0 (net_of (parts_of m))) (sym h.program) (at_start h.name (net_of (parts_of m)) h.net)

    pub start_plain : IsPlain (plain_of m)
    start_plain = record {
      reached = (zero, start_reached);
      over = subst (λ (z : Program). IsOver z.tables (parts_of m)) (sym h.program) h.over;
      names = h.names ∙ ap (λ (z : Program). map (λ f. f.name) z.net.free) (sym h.program);
    }

    pub start_machine : AreAllowed cells → IsMachine m
    start_machine few = record {
      accepted = (limits, text, subst (λ (z : Program). IsAccepted limits text z) (sym h.program) accepted);
      plain = start_plain;
      queue = subst (λ (z : Program). IsQueueOf z.tables (parts_of m) m.queue) (sym h.program)
          (subst (IsQueueOf p.tables (parts_of m)) (sym h.queue) (queue_moved p.tables h.name p.net (parts_of m) net_at h.net opposed_at h.first h.pairs.pairs));
      cells = (cells, few, h.counted);
    }

  module _ (m n : MachineParts) (h : IsStart p cells m) (g : IsStart p cells n) where
    f : ℕ → ℕ
    f = between (signature_of p.tables) (net_of p.net) (net_of (parts_of m)) (net_of (parts_of n)) net_at h.name g.name h.net g.net

    queue_same : n.queue ≡ map (both f) m.queue
    unfolding f
    queue_same =
        g.queue ∙ ap (map (both g.name)) (same_first p.tables p.net g.first h.first g.pairs h.pairs)
        ∙ map_same (both g.name) (λ q. both f (both h.name q)) h.first (λ k q e. (
        let z = h.pairs.pairs.pairs k q e in
        let a = lives p.tables p.net q z in
        let one : g.name q.0 ≡ f (h.name q.0) = sym (from_to (signature_of p.tables) (net_of p.net) (net_of (parts_of m)) (net_of (parts_of n)) net_at h.name g.name h.net g.net q.0 a.0) in
        let two : g.name q.1 ≡ f (h.name q.1) = sym (from_to (signature_of p.tables) (net_of p.net) (net_of (parts_of m)) (net_of (parts_of n)) net_at h.name g.name h.net g.net q.1 a.1) in
        ap (λ (z : ℕ). let w : ℕ × ℕ = (z, g.name q.1) in w) one ∙ ap (λ (z : ℕ). let w : ℕ × ℕ = (f (h.name q.0), z) in w) two
        ))
        ∙ sym (map_twice (both f) (both h.name) h.first) ∙ ap (map (both f)) (sym h.queue)

    pub same_start : AreSame m n
    unfolding f
    same_start = (
      f,
      record {
        program = g.program ∙ sym h.program;
        net = renamed_between (signature_of p.tables) (net_of p.net) (net_of (parts_of m)) (net_of (parts_of n)) net_at h.name g.name h.net g.net;
        names = g.names ∙ sym h.names;
        queue = queue_same;
        vacant = same_need n.vacant m.vacant (λ c. (let x = count_at p cells m h c in let y = count_at p cells n g c in omega (arith, x, y)));
      },
    )
