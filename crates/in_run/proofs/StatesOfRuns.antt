-- A run, step by step and phase by phase.
use Rattle.std.proofs.Common.{◌≡◌, ◌≢◌, ◌⊎◌, ◌≤◌, ◌<◌, ◌+◌, ℕ, zero, suc, List, [], length, inl, inr, Ok, Err, refl, sym, ap, subst, ◌∙◌, arith}
use Rattle.std.proofs.lemmas.List.{length-map}
use Rattle.in_arena.specs.Classes.{amount}
use Rattle.in_arena.specs.declared.content.CellCounts.{CellCounts}
use Rattle.in_check.specs.Checking.{IsAccepted}
use Rattle.in_check.specs.Plain.{IsReachedBy}
use Rattle.in_check.specs.Programs.{Program}
use Rattle.in_check.proofs.Public.{steps_under_names}
use Rattle.in_interaction.specs.Queues.{agents_at, both}
use Rattle.in_compile.specs.Cells.{agents_of, count_of}
use Rattle.in_limits.specs.declared.limits.Limits.{Limits}
use Rattle.in_run.specs.declared.running.RunFault.TheVariants.{Start, Memory}
use Rattle.in_run.specs.declared.stops.Stop.{Stop}
use Rattle.in_run.specs.declared.stops.Stop.TheVariants.{Normal, Limit, Full}
use Rattle.in_run.specs.Advancing.{RunsAnyhow, no_step, then_any, then_phase, then_renamed}
use Rattle.in_run.specs.Laws.{TurnsAreAllowed}
use Rattle.in_run.specs.Outcomes.{GoesOnToTheEnd, ReachesWith, RunsInTurn, RunsTo}
use Rattle.in_run.specs.Stops.{IsStop, NoneHasRoom}
use Rattle.in_reducer.specs.Machines.{MachineParts, HasCells, plain_of}
use Rattle.in_reducer.specs.Starts.{IsStart}
use Rattle.in_machine.specs.Machines.{IsMachine}
use Rattle.in_reducer.specs.Runs.{Runs, at_start, then_step}
use Rattle.in_reducer.specs.Steps.{HasRoomAt}
use Rattle.in_machine.specs.Taking.{TakesNoFirst}
use Rattle.in_reducer.specs.Same.{RunsUpToNumbers}
use Rattle.in_reducer.proofs.Public.{counted_same, joined, run_before, start_same_as}
use Rattle.in_machine.proofs.Public.{as_reducer, machine_on, machine_same, reached_same, room_moved, start_machine, start_reached}
use Rattle.in_syntax.specs.declared.text_limits.TextLimits.{TextLimits}

-- k interactions of a program's run within these limits
pub record IsStateOfRun (p : Program) (l : Limits) (k : ℕ) (m : MachineParts) : Type 0 where
  pub reaches : ReachesWith p l.cells k m
  pub in_turn : l.workers ≡ 1 → (start : MachineParts) × IsStart p l.cells start × Runs start k m
  pub within : k ≤ l.limit

-- ---- in any order

pub runs_anyhow : (m n : MachineParts) (k : ℕ) → Runs m k n → RunsAnyhow m k n
runs_anyhow m n zero (at_start _) = no_step m
runs_anyhow m o (suc k) (then_step _ n _ _ before s) = then_any m n o k 0 (runs_anyhow m n k before) s

-- .. and so does one up to numbers
anyhow_after : (m s n : MachineParts) (j k : ℕ) → RunsAnyhow m j s → Runs s k n → RunsAnyhow m (k + j) n
anyhow_after m s n j zero run (at_start _) = subst (λ (i : ℕ). RunsAnyhow m i s) (let z : j ≡ 0 + j = omega arith in z) run
anyhow_after m s o j (suc k) run (then_step _ n _ _ before t) = subst (λ (i : ℕ). RunsAnyhow m i o) (let z : suc (k + j) ≡ suc k + j = omega arith in z) (then_any m n o (k + j) 0 (anyhow_after m s n j k run before) t)

pub anyhow_further : (m n o : MachineParts) (j k : ℕ) → RunsAnyhow m j n → RunsUpToNumbers n k o → RunsAnyhow m (k + j) o
anyhow_further m n o j k before (s, same, run) = anyhow_after m s o j k (then_renamed m n s j before same) run

pub up_to_numbers_anyhow : (m n : MachineParts) (k : ℕ) → RunsUpToNumbers m k n → RunsAnyhow m k n
up_to_numbers_anyhow m n k run = subst (λ (i : ℕ). RunsAnyhow m i n) (let z : k + 0 ≡ k = omega arith in z) (anyhow_further m m n 0 k (no_step m) run)

program_kept : (m n : MachineParts) (k : ℕ) → RunsAnyhow m k n → n.program ≡ m.program
program_kept m n zero (no_step _) = refl
program_kept m o (suc k) (then_any _ n _ _ i before s) = s.step.program ∙ program_kept m n k before
program_kept m o _ (then_phase _ n _ k j before p) = p.program ∙ program_kept m n k before
program_kept m o k (then_renamed _ n _ _ before same) = same.1.program ∙ program_kept m n k before

cells_kept : (m n : MachineParts) (k : ℕ) (cells : CellCounts) → RunsAnyhow m k n → HasCells cells m → HasCells cells n
cells_kept m n zero cells (no_step _) h = h
cells_kept m o (suc k) cells (then_any _ n _ _ i before s) h = λ c.
    subst (λ (z : Program). count_of o.vacant c + agents_of z.tables c o.agents ≡ amount cells c) (sym s.step.program) (s.cells c ∙ cells_kept m n k cells before h c)
cells_kept m o _ cells (then_phase _ n _ k j before p) h = λ c.
    subst (λ (z : Program). count_of o.vacant c + agents_of z.tables c o.agents ≡ amount cells c) (sym p.program) (p.cells c ∙ cells_kept m n k cells before h c)
cells_kept m o k cells (then_renamed _ n _ _ before same) h = counted_same n o same.0 same.1 cells (cells_kept m n k cells before h)

machine_kept : (m n : MachineParts) (k : ℕ) → RunsAnyhow m k n → IsMachine m → IsMachine n
machine_kept m n zero (no_step _) h = h
machine_kept m o (suc k) (then_any _ n _ _ i before s) h = machine_on n o i (machine_kept m n k before h) s
machine_kept m o _ (then_phase _ n _ k j before p) h = p.machine
machine_kept m o k (then_renamed _ n _ _ before same) h = machine_same n o (machine_kept m n k before h) same

reached_on : (m n : MachineParts) (j k : ℕ) → RunsAnyhow m k n → IsMachine m → IsReachedBy (plain_of m) j → IsReachedBy (plain_of n) (k + j)
reached_on m n j zero (no_step _) h reached = subst (λ z. IsReachedBy (plain_of m) z) (let z : j ≡ 0 + j = omega arith in z) reached
reached_on m o j (suc k) (then_any _ n _ _ i before s) h reached =
    subst (λ z. IsReachedBy (plain_of o) z) (let z : suc (k + j) ≡ suc k + j = omega arith in z)
    ((steps_under_names (plain_of n) (plain_of o) (agents_at s.pair).0 (agents_at s.pair).1 s.name (machine_kept m n k before h).plain s.active s.step).1 (k + j)
    (reached_on m n j k before h reached))
reached_on m o j _ (then_phase _ n _ k i before p) h reached =
    subst (λ z. IsReachedBy (plain_of o) z) (let z : i + (k + j) ≡ i + k + j = omega arith in z) (p.reached (k + j) (reached_on m n j k before h reached))
reached_on m o j k (then_renamed _ n _ _ before same) h reached = reached_same n o (k + j) same (reached_on m n j k before h reached)

-- the interactions of a run are some more
reaches_on : (p : Program) (cells : CellCounts) (j k : ℕ) (m n : MachineParts) → ReachesWith p cells j m → RunsAnyhow m k n → ReachesWith p cells (k + j) n
reaches_on p cells j k m n h run = record {
  start = h.start;
  machine = machine_kept m n k run h.machine;
  program = program_kept m n k run ∙ h.program;
  counted = cells_kept m n k cells run h.counted;
  reached = reached_on m n j k run h.machine h.reached;
}

-- a start is reached by none
module _ (limits : TextLimits) (text : List ℕ) (p : Program) (l : Limits) (accepted : IsAccepted limits text p) (m : MachineParts) (h : IsStart p l.cells m) where
  at_first : ReachesWith p l.cells 0 m
  at_first = record {
    start = (m, h);
    machine = start_machine limits text p accepted l.cells m h l.most;
    program = h.program;
    counted = h.counted;
    reached = start_reached limits text p accepted l.cells m h;
  }

  pub begins : IsStateOfRun p l 0 m
  begins = record { reaches = at_first; in_turn = λ _. (m, h, at_start m); within = omega arith }

  pub reaches_in_turn : (k : ℕ) (n : MachineParts) → Runs m k n → ReachesWith p l.cells k n
  reaches_in_turn k n run = subst (λ j. ReachesWith p l.cells j n) (let z : k + 0 ≡ k = omega arith in z) (reaches_on p l.cells 0 k m n at_first (runs_anyhow m n k run))

pub turns_are_allowed : TurnsAreAllowed
turns_are_allowed limits text p l (Ok o) accepted h = ((reaches_in_turn limits text p l accepted h.0 h.1 o.interactions o.machine h.2.run, h.2.within, h.2.stop), λ _. h, inl h)
turns_are_allowed limits text p l (Err (Start f)) accepted h = (h, λ _. h, inl h)
turns_are_allowed limits text p l (Err (Memory m k)) accepted h = absurd h

-- ---- further on

-- a run in turn from a start, and then one up to numbers, is a run from a start
turn_further : (limits : TextLimits) (text : List ℕ) (p : Program) (l : Limits) (j k : ℕ) (start m n : MachineParts) → IsAccepted limits text p → IsStart p l.cells start → Runs start k m → RunsUpToNumbers m j n → (other : MachineParts) × IsStart p l.cells other × Runs other (j + k) n
turn_further limits text p l j k start m n accepted is run (s, same, more) =
    let r = run_before start m s k (as_reducer start (start_machine limits text p accepted l.cells start is l.most)) run same in
    (r.0, start_same_as p l.cells start r.0 is r.1, joined r.0 s n k j r.2 more)

-- if an interaction is possible, some are done
pub takes_some : (m n : MachineParts) (k most : ℕ) → RunsUpToNumbers m k n → 0 < length m.queue → HasRoomAt m 0 → 0 < most → (k < most → TakesNoFirst n) → 1 ≤ k
takes_some m n zero most (s, (f, same), (at_start _)) some room l fewer = absurd (elim (fewer l) [ inl none ↦ no_pair none | inr never ↦ never (room_moved f m s same room) ])
  where
    no_pair : n.queue ≡ [] → ⊥
    no_pair none = let e = ap length (sym same.queue ∙ none) in let many = length-map m.queue (both f) in omega (arith, e, many, some)
takes_some m n (suc k) most run some room l fewer = omega arith

module _ (p : Program) (l : Limits) (k : ℕ) (m : MachineParts) (h : IsStateOfRun p l k m) where
  -- more interactions in any order, and in turn if there is one worker
  runs_further : (n : MachineParts) (j : ℕ) → RunsAnyhow m j n → (l.workers ≡ 1 → RunsUpToNumbers m j n) → j + k ≤ l.limit → IsStateOfRun p l (j + k) n
  runs_further n j run turn fits = record {
    reaches = reaches_on p l.cells k j m n h.reaches run;
    in_turn = λ one. (
        let accepted = h.reaches.machine.accepted in
        let from = h.in_turn one in
        turn_further accepted.0 accepted.1 p l j k from.0 m n (subst (λ (z : Program). IsAccepted accepted.0 accepted.1 z) h.reaches.program accepted.2) from.1 from.2 (turn one)
        );
    within = fits;
  }

  pub advances_further : (n : MachineParts) (j : ℕ) → RunsAnyhow m j n → (l.workers ≡ 1 → RunsUpToNumbers m j n) → j + k ≤ l.limit → IsStateOfRun p l (k + j) n
  advances_further n j run turn fits = subst (λ i. IsStateOfRun p l i n) (let z : j + k ≡ k + j = omega arith in z) (runs_further n j run turn fits)

  -- ---- its outcome

  -- one worker, or the limit is reached, or no pair has room
  abbrev pub GoesOnNoMore : Type 0
  GoesOnNoMore = (l.workers ≡ 1) ⊎ (k ≡ l.limit) ⊎ NoneHasRoom m

  ends_in_one_turn : (s : Stop) → IsStop l.limit m k s → l.workers ≡ 1 → RunsInTurn p l (Ok (record { machine = m; interactions = k; stop = s }))
  ends_in_one_turn s stop one = let from = h.in_turn one in (from.0, from.1, record { run = from.2; within = h.within; stop = stop })

  -- at the limit a run stops as normal or at the limit
  none_at_limit : (s : Stop) → IsStop l.limit m k s → k ≡ l.limit → s ≢ Limit → NoneHasRoom m
  none_at_limit Normal stop all other = λ i lt room. (let e = ap length stop in omega (arith, e, lt))
  none_at_limit Limit stop all other = absurd (other refl)
  none_at_limit (Full c need free) stop all other = let few = stop.1 in absurd (omega (arith, all, few))

  goes_on_to_the_end : (s : Stop) → IsStop l.limit m k s → (k ≡ l.limit) ⊎ NoneHasRoom m → GoesOnToTheEnd p l (Ok (record { machine = m; interactions = k; stop = s }))
  goes_on_to_the_end s stop (inl all) = none_at_limit s stop all
  goes_on_to_the_end s stop (inr none) = λ _. none

  pub ends_so : (s : Stop) → IsStop l.limit m k s → GoesOnNoMore → RunsTo p l (Ok (record { machine = m; interactions = k; stop = s }))
  ends_so s stop (inl one) = ((h.reaches, h.within, stop), ends_in_one_turn s stop, inl (ends_in_one_turn s stop one))
  ends_so s stop (inr z) = ((h.reaches, h.within, stop), ends_in_one_turn s stop, inr (goes_on_to_the_end s stop z))

  pub ends_at_the_end : (s : Stop) → IsStop l.limit m k s → GoesOnNoMore → (l.workers ≡ 1 → ⊥) → GoesOnToTheEnd p l (Ok (record { machine = m; interactions = k; stop = s }))
  ends_at_the_end s stop (inl one) several = absurd (several one)
  ends_at_the_end s stop (inr z) several = goes_on_to_the_end s stop z

-- ---- in turn, with any number of workers

pub record IsInTurn (p : Program) (l : Limits) (k : ℕ) (m : MachineParts) : Type 0 where
  pub start : MachineParts
  pub starts : IsStart p l.cells start
  pub run : Runs start k m
  pub within : k ≤ l.limit

pub begins_in_turn : (p : Program) (l : Limits) (m : MachineParts) → IsStart p l.cells m → IsInTurn p l 0 m
begins_in_turn p l m h = record { start = m; starts = h; run = at_start m; within = omega arith }

pub ends_in_turn : (p : Program) (l : Limits) (k : ℕ) (m : MachineParts) → IsInTurn p l k m → (s : Stop) → IsStop l.limit m k s → RunsInTurn p l (Ok (record { machine = m; interactions = k; stop = s }))
ends_in_turn p l k m h s stop = (h.start, h.starts, record { run = h.run; within = h.within; stop = stop })

-- some more interactions, if one is possible
pub takes_in_turn : (limits : TextLimits) (text : List ℕ) (p : Program) (l : Limits) (j k : ℕ) (m n : MachineParts) → IsAccepted limits text p → IsInTurn p l k m → RunsUpToNumbers m j n → j + k ≤ l.limit → IsInTurn p l (k + j) n
takes_in_turn limits text p l j k m n accepted h turn fits =
    let r = turn_further limits text p l j k h.start m n accepted h.starts h.run turn in
    record { start = r.0; starts = r.1; run = subst (λ i. Runs r.0 i n) (let z : j + k ≡ k + j = omega arith in z) r.2; within = omega (arith, fits) }
