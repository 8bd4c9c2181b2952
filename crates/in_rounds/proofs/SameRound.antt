-- Rounds of machines that are the same up to the numbers of their agents.
use Rattle.std.proofs.Common.{◌≡◌, ◌⊎◌, inl, inr, ◌<◌, ℕ, min, length, sym, ap, subst, ◌∙◌, arith}
use Rattle.std.proofs.lemmas.List.{length-map}
use Rattle.in_interaction.specs.Queues.{both}
use Rattle.in_reducer.specs.Machines.{MachineParts}
use Rattle.in_reducer.specs.Runs.{Runs}
use Rattle.in_machine.specs.Machines.{IsMachine}
use Rattle.in_reducer.specs.Same.{AreSame}
use Rattle.in_reducer.proofs.Public.{an_equivalence}
use Rattle.in_machine.proofs.Public.{as_reducer, machine_runs, passes, room_moved, same_run}
use Rattle.in_rounds.specs.Laws.{RoundsAreSame}
use Rattle.in_rounds.specs.Rounds.{IsFront, jobs_of}

same_jobs : (m n : MachineParts) (budget : ℕ) → AreSame m n → jobs_of m budget ≡ jobs_of n budget
same_jobs m n budget (f, same) = ap (λ (z : ℕ). min z budget) (sym (ap length same.queue ∙ length-map m.queue (both f)))

-- a front is no shorter than another one of a machine that is the same
not_shorter : (start other m n : MachineParts) (budget j k : ℕ) → IsMachine start → IsMachine other → AreSame start other → IsFront start budget m j → IsFront other budget n k → j < k → ⊥
not_shorter start other m n budget j k h g same x y l =
    let u = passes other n j k y.run l in
    let r = same_run start other m u.0 j h g same x.run u.1 in
    let back = an_equivalence.back m u.0 (as_reducer m (machine_runs start m j h x.run)) r in
    let jobs = same_jobs start other budget same in
    let most = y.most in
    elim x.ends [
      | inl all ↦ omega (arith, all, jobs, most, l)
      | inr none ↦ none (room_moved back.0 u.0 m back.1 u.2.1.room)
    ]

pub same_round : RoundsAreSame
same_round start other m n budget j k h g same x y =
    let back = an_equivalence.back start other (as_reducer start h) same in
    let as_long : j ≡ k = elim (let z : (j < k) ⊎ (k < j) ⊎ (j ≡ k) = grind arith in z) [
      | inl l ↦ absurd (not_shorter start other m n budget j k h g same x.front y.front l)
      | inr z ↦ elim z [ inl l ↦ absurd (not_shorter other start n m budget k j g h back y.front x.front l) | inr e ↦ e ]
    ] in
    (same_run start other m n k h g same (subst (λ i. Runs start i m) as_long x.front.run) y.front.run, as_long)
