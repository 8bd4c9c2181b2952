-- A program's run has one end: two accepted programs of one text differ at most in the table of their rules, which a run doesn't show.
use Rattle.std.proofs.Common.{◌≡◌, ◌≤◌, ℕ, zero, suc, List, map, ap, ◌∙◌, subst, arith}
use Rattle.in_arena.specs.Classes.{amount}
use Rattle.in_arena.specs.declared.content.CellClass.{CellClass}
use Rattle.in_arena.specs.declared.content.CellCounts.{CellCounts}
use Rattle.in_cover.specs.Table.{Cells}
use Rattle.in_net.specs.declared.nets.AgentNo.{AgentNo}
use Rattle.in_net.specs.Built.{IsOver}
use Rattle.in_net.specs.Nets.{net_of}
use Rattle.in_net.specs.Parts.{Parts}
use Rattle.in_net.specs.Rules.{RuleParts}
use Rattle.in_syntax.specs.declared.text_limits.TextLimits.{TextLimits}
use Rattle.in_symbols.specs.Tables.{Tables}
use Rattle.in_check.specs.Checking.{IsAccepted}
use Rattle.in_check.specs.Laws.{AreOneProgram}
use Rattle.in_check.specs.Plain.{IsPairAt, IsRuleAt}
use Rattle.in_check.specs.Programs.{Program}
use Rattle.in_check.specs.Runs.{IsRenamed}
use Rattle.in_interaction.specs.Queues.{IsFirstQueue}
use Rattle.in_compile.specs.declared.cells.Need.{Need}
use Rattle.in_limits.specs.declared.limits.Limits.{Limits}
use Rattle.in_run.specs.declared.stops.Stop.{Stop}
use Rattle.in_run.specs.declared.stops.Stop.TheVariants.{Normal, Limit, Full}
use Rattle.in_compile.specs.Cells.{agents_of}
use Rattle.in_reducer.specs.Machines.{MachineParts, parts_of, plain_of}
use Rattle.in_reducer.specs.Steps.{StepsAt, NeedsAt}
use Rattle.in_reducer.specs.Runs.{Runs, at_start, then_step}
use Rattle.in_run.specs.Stops.{IsStop, IsOutcome}
use Rattle.in_reducer.specs.Starts.{IsStart}
use Rattle.in_machine.specs.Starts.{DoesNotFit}
use Rattle.in_machine.proofs.Public.{machine_runs, count_at, same_start, start_machine}
use Rattle.in_run.proofs.Public.{same_outcome}
use Rattle.in_print.proofs.Public.{same_texts}
use Rattle.in_machine.specs.Texts.{text_of}

-- ---- another table of rules

module _ (ns : Cells) where
  abbrev pub numbered : Program → Program
  numbered p = record { tables = p.tables; rules = p.rules; net = p.net; numbers = ns }

  abbrev pub renumbered : MachineParts → MachineParts
  renumbered m = record { program = numbered m.program; agents = m.agents; free = m.free; queue = m.queue; vacant = m.vacant }

  rule_kept : (m : MachineParts) (a b : AgentNo) (k : ℕ) (r : RuleParts) → IsRuleAt (plain_of m) a b k r → IsRuleAt (plain_of (renumbered m)) a b k r
  rule_kept m a b k r h = record { stands = h.stands; over = h.over; declared = h.declared; one = h.one; two = h.two }

  pair_kept : (m : MachineParts) (a b : AgentNo) → IsPairAt (plain_of m) a b → IsPairAt (plain_of (renumbered m)) a b
  pair_kept m a b h = record { first = h.first; second = h.second; one = h.one; two = h.two; active = h.active; constructor = h.constructor }

  pub need_kept : (m : MachineParts) (i : ℕ) (x : Need) → NeedsAt m i x → NeedsAt (renumbered m) i x
  need_kept m i x h = record { pair = h.pair; stands = h.stands; number = h.number; rule = h.rule; is_rule = rule_kept m _ _ h.number h.rule h.is_rule; is_need = h.is_need }

  pub step_kept : (m o : MachineParts) (i : ℕ) → StepsAt m i o → StepsAt (renumbered m) i (renumbered o)
  step_kept m o i s = record {
    pair = s.pair;
    stands = s.stands;
    active = pair_kept m _ _ s.active;
    room = (s.room.0, need_kept m i s.room.0 s.room.1, s.room.2);
    name = s.name;
    step = record {
      number = s.step.number;
      rule = s.step.rule;
      is_rule = rule_kept m _ _ s.step.number s.step.rule s.step.is_rule;
      acts = s.step.acts;
      program = ap numbered s.step.program;
    };
    made = s.made;
    new = s.new;
    queue = s.queue;
    cells = s.cells;
  }

  pub runs_kept : (m n : MachineParts) (k : ℕ) → Runs m k n → Runs (renumbered m) k (renumbered n)
  runs_kept m _ zero (at_start _) = at_start (renumbered m)
  runs_kept m o (suc k) (then_step _ n _ _ before s) = then_step (renumbered m) (renumbered n) (renumbered o) k (runs_kept m n k before) (step_kept n o 0 s)

  stop_kept : (limit : ℕ) (m : MachineParts) (k : ℕ) (s : Stop) → IsStop limit m k s → IsStop limit (renumbered m) k s
  stop_kept limit m k Normal h = h
  stop_kept limit m k Limit h = h
  stop_kept limit m k (Full c need free) h = (h.0, h.1, (h.2.0, need_kept m 0 h.2.0 h.2.1, h.2.2, h.2.3, h.2.4))

  outcome_kept : (start : MachineParts) (limit : ℕ) (m : MachineParts) (k : ℕ) (s : Stop) → IsOutcome start limit m k s → IsOutcome (renumbered start) limit (renumbered m) k s
  outcome_kept start limit m k s h = record { run = runs_kept start m k h.run; within = h.within; stop = stop_kept limit m k s h.stop }

-- ---- two programs of one text

module _ (p q : Program) (same : AreOneProgram p q) where
  pub start_kept : (cells : CellCounts) (m : MachineParts) → IsStart p cells m → IsStart q cells (renumbered q.numbers m)
  start_kept cells m h = record {
    program = ap (numbered q.numbers) h.program
        ∙ (λ i. record { tables = same.tables i; rules = same.rules i; net = same.net i; numbers = q.numbers });
    over = subst (λ (t : Tables). IsOver t (parts_of m)) same.tables h.over;
    name = h.name;
    net = subst (λ (n : Parts). IsRenamed h.name (net_of n) (net_of (parts_of m))) same.net h.net;
    names = h.names ∙ ap (λ (n : Parts). map (λ f. f.name) n.free) same.net;
    first = h.first;
    pairs = subst (λ (t : Tables). IsFirstQueue t q.net h.first) same.tables (subst (λ (n : Parts). IsFirstQueue p.tables n h.first) same.net h.pairs);
    queue = h.queue;
    counted = h.counted;
  }

  pub same_agents : (c : CellClass) → agents_of p.tables c p.net.cells ≡ agents_of q.tables c q.net.cells
  same_agents c = (λ i. agents_of (same.tables i) c (same.net i).cells)

fits : (p : Program) (cells : CellCounts) (m : MachineParts) (c : CellClass) → IsStart p cells m → agents_of p.tables c p.net.cells ≤ amount cells c
fits p cells m c h = let count = count_at p cells m h c in omega (arith, count)

pub starts_or_not : (p q : Program) → AreOneProgram p q → (cells : CellCounts) (m : MachineParts) (c : CellClass) (need free : ℕ) → IsStart p cells m → DoesNotFit q cells c need free → ⊥
starts_or_not p q same cells m c need free h (short, is, all) = let f = fits p cells m c h in let a = same_agents p q same c in let s = short.0 in omega (arith, s, f, a)

pub one_run : (limits : TextLimits) (text : List ℕ) (p q : Program) (l : Limits) (m n o r : MachineParts) (j k : ℕ) (s t : Stop) → AreOneProgram p q → IsAccepted limits text q → IsStart p l.cells m → IsOutcome m l.limit n j s → IsStart q l.cells o → IsOutcome o l.limit r k t
    → (text_of n ≡ text_of r) × (j ≡ k) × (s ≡ t)
one_run limits text p q l m n o r j k s t same accepted start run other end =
    let first = start_kept p q same l.cells m start in
    let machine = start_machine limits text q accepted l.cells (renumbered q.numbers m) first l.most in
    let whole = outcome_kept q.numbers m l.limit n j s run in
    let one =
    same_outcome (renumbered q.numbers m) o machine (start_machine limits text q accepted l.cells o other l.most) (same_start limits text q accepted l.cells (renumbered q.numbers m) o first other) l.limit (renumbered q.numbers n) r j k s t whole end in
    (same_texts (renumbered q.numbers n) r (machine_runs (renumbered q.numbers m) (renumbered q.numbers n) j machine whole.run) one.0.0 one.0.1, one.1, one.2)
