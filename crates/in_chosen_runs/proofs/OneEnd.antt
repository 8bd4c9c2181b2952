-- Machines that are the same up to the numbers of their agents do the same choices, and lead to the same.
use Rattle.std.proofs.Common.{◌≡◌, ◌⊎◌, inl, inr, ◌<◌, ◌≤◌, ℕ, zero, suc, List, [], ◌∷◌, length, take, slice_get, Some, refl, sym, ap, subst, arith}
use Rattle.std.proofs.lemmas.Option.{slice_get_cases, slice_get_within}
use Rattle.in_arena.specs.declared.content.CellCounts.{CellCounts}
use Rattle.in_check.specs.Checking.{IsAccepted}
use Rattle.in_check.specs.Programs.{Program}
use Rattle.in_compile.specs.Cells.{count_of, IsEnough}
use Rattle.in_reducer.specs.Limiting.{AreAllowed}
use Rattle.in_reducer.specs.Machines.{MachineParts}
use Rattle.in_reducer.specs.Same.{AreSame, RunsUpToNumbers}
use Rattle.in_reducer.specs.Steps.{StepsAt}
use Rattle.in_reducer.proofs.Public.{an_equivalence, need_moved, pair_moved, same_step}
use Rattle.in_machine.specs.Machines.{IsMachine}
use Rattle.in_machine.specs.Taking.{TakesNoFirst}
use Rattle.in_machine.proofs.Public.{firsts_taken_are_one, machine_on, machine_runs, machine_same, same_start, start_machine}
use Rattle.in_machine.proofs.Public.{as_reducer}
use Rattle.in_chosen_runs.specs.Choosing.{CannotStep, IsAsChosen, StepsBy}
use Rattle.in_chosen_runs.specs.Laws.{ChosenRunsAreMachines, ChosenRunsAreOne}
use Rattle.in_chosen_runs.specs.declared.running.Chosen.{Chosen}
use Rattle.in_syntax.specs.declared.text_limits.TextLimits.{TextLimits}

turned : (m n : MachineParts) → IsMachine m → AreSame m n → AreSame n m
turned m n machine same = an_equivalence.back m n (as_reducer m machine) same

-- one run can do the choices that the other does
can_too : (m n o : MachineParts) (i : ℕ) → IsMachine m → AreSame m n → StepsAt n i o → CannotStep m i → ⊥
can_too m n o i machine same s cannot =
    let back = turned m n machine same in
    elim cannot [
      | inl past ↦ (
          let lt : i < length m.queue = slice_get_within m.queue i _ (pair_moved back.0 n m back.1 i s.pair s.stands) in
          absurd (omega (arith, past, lt))
          )
      | inr never ↦ (
          let room = s.room in
          never (room.0, need_moved back.0 n m back.1 i room.0 room.1, subst (IsEnough (count_of room.0)) (sym (ap count_of back.1.vacant)) room.2)
          )
    ]

-- the same choices lead to the same machine, up to numbers
same_choices : (m n o u : MachineParts) (choices : List ℕ) → IsMachine m → IsMachine n → AreSame m n → StepsBy m choices o → StepsBy n choices u → IsMachine o × IsMachine u × AreSame o u
same_choices m n o u [] h g same one two = (subst IsMachine (sym one) h, subst IsMachine (sym two) g, subst (λ z. AreSame z u) (sym one) (subst (AreSame m) (sym two) same))
same_choices m n o u (i ∷ choices) h g same (a, s, one) (b, t, two) =
    same_choices a b o u choices (machine_on m a i h s) (machine_on n b i g t)
    (same_step same.0 m n a b i (as_reducer m h) (as_reducer n g) same.1 s t) one two

-- as many of them are done
not_fewer : (m n o u : MachineParts) (choices : List ℕ) (j k : ℕ) → IsMachine m → IsMachine n → AreSame m n → StepsBy m (take j choices) o →
    ((c : ℕ) → slice_get choices j ≡ Some c → CannotStep o c) → StepsBy n (take k choices) u → k ≤ length choices → j < k → ⊥
not_fewer m n o u [] j k h g same one left two few l = absurd (omega (arith, few, l))
not_fewer m n o u (i ∷ choices) j zero h g same one left two few l = absurd (omega (arith, l))
not_fewer m n o u (i ∷ choices) zero (suc k) h g same one left (b, t, two) few l = can_too m n b i h same t (subst (λ z. CannotStep z i) one (left i refl))
not_fewer m n o u (i ∷ choices) (suc j) (suc k) h g same (a, s, one) left (b, t, two) few l =
    not_fewer a b o u choices j k (machine_on m a i h s) (machine_on n b i g t)
    (same_step same.0 m n a b i (as_reducer m h) (as_reducer n g) same.1 s t) one left two (omega (arith, few)) (omega (arith, l))

module _ (limits : TextLimits) (text : List ℕ) (p : Program) (accepted : IsAccepted limits text p) (choices : List ℕ) (limit : ℕ) (cells : CellCounts) (few : AreAllowed cells) (o u : Chosen) (h : IsAsChosen p choices limit cells o) (g : IsAsChosen p choices limit cells u) where
  one : IsMachine h.start
  one = start_machine limits text p accepted cells h.start h.is_start few

  two : IsMachine g.start
  two = start_machine limits text p accepted cells g.start g.is_start few

  start : AreSame h.start g.start
  start = same_start limits text p accepted cells h.start g.start h.is_start g.is_start

  as_many : o.chosen ≡ u.chosen
  as_many = elim (let z : (o.chosen < u.chosen) ⊎ (u.chosen < o.chosen) ⊎ (o.chosen ≡ u.chosen) = grind arith in z) [
    | inl l ↦ absurd (not_fewer h.start g.start h.middle g.middle choices o.chosen u.chosen one two start h.by_choice (λ c at. (h.left c at).0) g.by_choice g.most l)
    | inr z ↦ elim z [
      | inl l ↦ absurd (not_fewer g.start h.start g.middle h.middle choices u.chosen o.chosen two one (turned h.start g.start one start) g.by_choice (λ c at. (g.left c at).0) h.by_choice h.most l)
      | inr e ↦ e
    ]
  ]

  middle : IsMachine h.middle × IsMachine g.middle × AreSame h.middle g.middle
  middle = same_choices h.start g.start h.middle g.middle (take o.chosen choices) one two start h.by_choice (subst (λ i. StepsBy g.start (take i choices) g.middle) (sym as_many) g.by_choice)

  -- the interactions after the second run's choices are possible after those of the first
  other : RunsUpToNumbers h.middle u.further u.machine
  other = let z = g.in_turn in (z.0, an_equivalence.through h.middle g.middle z.0 middle.2 z.1, z.2)

  after : (most : ℕ) → o.further ≤ most → (o.further < most → TakesNoFirst o.machine) → u.further ≤ most → (u.further < most → TakesNoFirst u.machine) → (o.further ≡ u.further) × AreSame o.machine u.machine
  after most fits ends fits_too ends_too = firsts_taken_are_one h.middle o.machine u.machine most o.further u.further middle.0 h.in_turn fits ends other fits_too ends_too

  further : (o.further ≡ u.further) × AreSame o.machine u.machine
  further = elim (slice_get_cases choices o.chosen).1 [
    | inl x ↦ (
        let none = (h.left x.0 x.2).1 in
        let none_too = (g.left x.0 (subst (λ i. slice_get choices i ≡ Some x.0) as_many x.2)).1 in
        after 0 (omega (arith, none)) (λ l. absurd (omega (arith, l))) (omega (arith, none_too)) (λ l. absurd (omega (arith, l)))
        )
    | inr x ↦ (
        let past = x.0 in
        let most = h.most in
        let all : o.chosen ≡ length choices = omega (arith, past, most) in
        after limit h.few (h.fewer all) g.few (g.fewer (subst (λ i. i ≡ length choices) as_many all))
        )
  ]

  pub one_end : (o.chosen ≡ u.chosen) × (o.further ≡ u.further) × AreSame o.machine u.machine
  one_end = (as_many, further.0, further.1)

pub chosen_runs_are_one : ChosenRunsAreOne
chosen_runs_are_one limits text p choices limit cells o u accepted few h g = one_end limits text p accepted choices limit cells few o u h g

pub chosen_runs_are_machines : ChosenRunsAreMachines
chosen_runs_are_machines limits text p choices limit cells o accepted few h =
    let on = h.in_turn in
    machine_runs on.0 o.machine o.further (machine_same h.middle on.0 (middle limits text p accepted choices limit cells few o o h h).0 on.1) on.2
