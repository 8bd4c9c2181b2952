-- Runs of machines that are the same up to the numbers of their agents.
use Rattle.std.proofs.Common.{◌≡◌, ◌+◌, ℕ, zero, suc, subst, arith}
use Rattle.in_check.specs.Plain.{IsPlain, IsReachedBy}
use Rattle.in_check.proofs.Public.{steps_under_names}
use Rattle.in_interaction.specs.Queues.{agents_at}
use Rattle.in_compile.specs.declared.cells.Need.{Need}
use Rattle.in_reducer.specs.Machines.{MachineParts, plain_of}
use Rattle.in_machine.specs.Machines.{IsMachine}
use Rattle.in_reducer.specs.Steps.{NeedsAt, StepsAt}
use Rattle.in_reducer.specs.Runs.{Runs, at_start, then_step}
use Rattle.in_reducer.specs.Same.{AreSame}
use Rattle.in_reducer.proofs.Public.{needs_are_one, same_run as reducers_run}
use Rattle.in_machine.proofs.StepsOn.{as_reducer, machine_on}

-- ---- runs reach

step_keeps : (m o : MachineParts) (i : ℕ) → IsPlain (plain_of m) → StepsAt m i o → IsPlain (plain_of o) × ((k : ℕ) → IsReachedBy (plain_of m) k → IsReachedBy (plain_of o) (suc k))
step_keeps m o i plain s = steps_under_names (plain_of m) (plain_of o) (agents_at s.pair).0 (agents_at s.pair).1 s.name plain s.active s.step

pub run_keeps : (m n : MachineParts) (j k : ℕ) → IsPlain (plain_of m) → IsReachedBy (plain_of m) j → Runs m k n → IsPlain (plain_of n) × IsReachedBy (plain_of n) (k + j)
run_keeps m n j zero plain reached (at_start _) = (plain, subst (λ z. IsReachedBy (plain_of m) z) (let z : j ≡ 0 + j = omega arith in z) reached)
run_keeps m o j (suc k) plain reached (then_step _ n _ _ before s) =
    let r = run_keeps m n j k plain reached before in
    let t = step_keeps n o 0 r.0 s in
    (t.0, subst (λ z. IsReachedBy (plain_of o) z) (let z : suc (k + j) ≡ suc k + j = omega arith in z) (t.1 (k + j) r.1))

pub machine_runs : (m n : MachineParts) (k : ℕ) → IsMachine m → Runs m k n → IsMachine n
machine_runs m n zero h (at_start _) = h
machine_runs m o (suc k) h (then_step _ n _ _ before s) = machine_on n o 0 (machine_runs m n k h before) s

-- ---- one machine

module _ (m : MachineParts) (h : IsMachine m) where
  -- a pair has one need
  pub one_need : (i : ℕ) (x y : Need) → NeedsAt m i x → NeedsAt m i y → x ≡ y
  one_need i x y = needs_are_one m i x y (as_reducer m h)

-- ---- two machines that are the same up to numbers

pub same_run : (m n o u : MachineParts) (k : ℕ) → IsMachine m → IsMachine n → AreSame m n → Runs m k o → Runs n k u → AreSame o u
same_run m n o u k h g same one two = reducers_run m n o u k (as_reducer m h) (as_reducer n g) same one two
