-- A run whose first pairs a caller chooses has one view, if memory didn't run out: two accepted programs of one text differ at most in the table
-- of their rules, which no view shows.
use Rattle.std.proofs.Common.{◌≡◌, ◌≢◌, inl, inr, ℕ, List, [], ◌∷◌, length, take, count_by, is_some, Option, Some, None, Ok, Err, slice_get, sym, ◌∙◌, ap, subst, arith}
use Rattle.std.proofs.lemmas.List.{length-map}
use Rattle.in_arena.specs.declared.content.CellCounts.{CellCounts}
use Rattle.in_syntax.specs.declared.faults.Fault.TheVariants.{Refused}
use Rattle.in_syntax.specs.declared.text_limits.TextLimits.{TextLimits}
use Rattle.in_check.specs.Checking.{IsAccepted}
use Rattle.in_check.specs.Laws.{AreOneProgram}
use Rattle.in_check.specs.Programs.{Program}
use Rattle.in_check.proofs.Public.{never_both, programs_once}
use Rattle.in_limits.specs.declared.limits.Limits.{Limits}
use Rattle.in_limits.proofs.Public.{one_limits}
use Rattle.in_reducer.specs.Machines.{MachineParts, parts_of}
use Rattle.in_reducer.specs.Same.{AreSame, IsSameMachine, RunsUpToNumbers}
use Rattle.in_reducer.specs.Steps.{HasRoomAt}
use Rattle.in_reducer.proofs.Public.{agents_as_many}
use Rattle.in_machine.specs.Machines.{IsMachine}
use Rattle.in_machine.specs.Taking.{TakesNoFirst}
use Rattle.in_machine.specs.Texts.{text_of}
use Rattle.in_print.specs.Laws.{TextsAreSame}
use Rattle.in_chosen_runs.specs.declared.running.Chosen.{Chosen}
use Rattle.in_chosen_runs.specs.Choosing.{CannotStep, IsAsChosen, StepsBy}
use Rattle.in_chosen_runs.specs.Laws.{ChosenRunsAreMachines, ChosenRunsAreOne, StartsAreRefusedOnce}
use Rattle.in_program.specs.declared.acting.Status.{Status}
use Rattle.in_program.specs.Acting.{memory_status}
use Rattle.in_program.proofs.Public.{need_kept, numbered, renumbered, runs_kept, start_kept, step_kept}
use Rattle.in_c.specs.declared.choosing.RunNumbers.{RunNumbers}
use Rattle.in_c.specs.declared.choosing.Shown.{Shown}
use Rattle.in_c.specs.Choosing.{AreGivenOut, EndsSo, normal, limited, short, IsEndBy, IsRunBy, ShowsProgram, ShowsText, run_numbers}
use Rattle.in_c.specs.Laws.{RunByAnswersAreOne}
use Rattle.in_c.proofs.AnsweredOnce.{given_alike, number_of}

-- ---- another table of rules

module _ (q : Program) where
  abbrev ended : Chosen → Chosen
  ended o = record { machine = renumbered q.numbers o.machine; chosen = o.chosen; further = o.further }

  room_kept : (m : MachineParts) (i : ℕ) → HasRoomAt m i → HasRoomAt (renumbered q.numbers m) i
  room_kept m i (need, h, enough) = (need, need_kept q.numbers m i need h, enough)

  room_back : (m : MachineParts) (i : ℕ) → HasRoomAt (renumbered q.numbers m) i → HasRoomAt m i
  room_back m i (need, h, enough) =
      (need, record { pair = h.pair; stands = h.stands; number = h.number; rule = h.rule; is_rule = record { stands = h.is_rule.stands; over = h.is_rule.over; declared = h.is_rule.declared; one = h.is_rule.one; two = h.is_rule.two }; is_need = h.is_need }, enough)

  choices_kept : (m after : MachineParts) (choices : List ℕ) → StepsBy m choices after → StepsBy (renumbered q.numbers m) choices (renumbered q.numbers after)
  choices_kept m after [] is = ap (renumbered q.numbers) is
  choices_kept m after (i ∷ choices) (next, s, rest) = (renumbered q.numbers next, step_kept q.numbers m next i s, choices_kept next after choices rest)

  cannot_kept : (m : MachineParts) (i : ℕ) → CannotStep m i → CannotStep (renumbered q.numbers m) i
  cannot_kept m i (inl past) = inl past
  cannot_kept m i (inr never) = inr (λ room. never (room_back m i room))

  no_first_kept : (m : MachineParts) → TakesNoFirst m → TakesNoFirst (renumbered q.numbers m)
  no_first_kept m (inl none) = inl none
  no_first_kept m (inr never) = inr (λ room. never (room_back m 0 room))

  in_turn_kept : (m n : MachineParts) (k : ℕ) → RunsUpToNumbers m k n → RunsUpToNumbers (renumbered q.numbers m) k (renumbered q.numbers n)
  in_turn_kept m n k (s, same, runs) =
      (renumbered q.numbers s, (same.0, record { program = ap (numbered q.numbers) same.1.program; net = same.1.net; names = same.1.names; queue = same.1.queue; vacant = same.1.vacant }), runs_kept q.numbers s n k runs)

run_kept : (p q : Program) → AreOneProgram p q → (choices : List ℕ) (limit : ℕ) (cells : CellCounts) (o : Chosen) → IsAsChosen p choices limit cells o → IsAsChosen q choices limit cells (ended q o)
run_kept p q same choices limit cells o h = record {
  start = renumbered q.numbers h.start;
  is_start = start_kept p q same cells h.start h.is_start;
  middle = renumbered q.numbers h.middle;
  most = h.most;
  by_choice = choices_kept q h.start h.middle (take o.chosen choices) h.by_choice;
  left = λ c at. (cannot_kept q h.middle c (h.left c at).0, (h.left c at).1);
  in_turn = in_turn_kept q h.middle o.machine o.further h.in_turn;
  few = h.few;
  fewer = λ all less. no_first_kept q o.machine (h.fewer all less);
}

-- ---- the same machine up to numbers shows the same

module _ (m n : MachineParts) (machine : IsMachine m) (f : ℕ → ℕ) (same : IsSameMachine f m n) where
  as_many_agents : count_by is_some m.agents ≡ count_by is_some n.agents
  as_many_agents = agents_as_many f (parts_of m) (parts_of n) same.net

  as_many_pairs : length m.queue ≡ length n.queue
  as_many_pairs = sym (ap (λ (z : List (ℕ × ℕ)). length z) same.queue ∙ length-map m.queue _)

end_once : (next : Option ℕ) (limit : ℕ) (o u : Chosen) (s t : Status) → length o.machine.queue ≡ length u.machine.queue → o.further ≡ u.further → IsEndBy next limit o s → IsEndBy next limit u t → s ≡ t
end_once (Some c) limit o u s t pairs further (inl h) (inl g) = h.1 ∙ sym g.1
end_once (Some c) limit o u s t pairs further (inl h) (inr g) = let lt = h.0 in let le = g.0 in absurd (omega (arith, lt, le, pairs))
end_once (Some c) limit o u s t pairs further (inr h) (inl g) = let le = h.0 in let lt = g.0 in absurd (omega (arith, lt, le, pairs))
end_once (Some c) limit o u s t pairs further (inr h) (inr g) = h.1 ∙ sym g.1
end_once None limit o u s t pairs further (normal none is) (normal none_too was) = is ∙ sym was
end_once None limit o u s t pairs further (normal none is) (limited some all was) = absurd (some (sym pairs ∙ none))
end_once None limit o u s t pairs further (normal none is) (short some fewer was) = absurd (some (sym pairs ∙ none))
end_once None limit o u s t pairs further (limited some all is) (normal none was) = absurd (some (pairs ∙ none))
end_once None limit o u s t pairs further (limited some all is) (limited some_too all_too was) = is ∙ sym was
end_once None limit o u s t pairs further (limited some all is) (short some_too fewer was) = absurd (fewer (sym further ∙ all))
end_once None limit o u s t pairs further (short some fewer is) (normal none was) = absurd (some (pairs ∙ none))
end_once None limit o u s t pairs further (short some fewer is) (limited some_too all was) = absurd (fewer (further ∙ all))
end_once None limit o u s t pairs further (short some fewer is) (short some_too fewer_too was) = is ∙ sym was

-- ---- one view

abbrev AreAlike : Shown → Shown → Type 0
AreAlike a b = (a.bytes.items ≡ b.bytes.items) × (a.numbers ≡ b.numbers) × (a.status ≡ b.status)

given_out : (a b : Shown) (bytes more : List ℕ) (n m : RunNumbers) (s t : Status) → bytes ≡ more → n ≡ m → s ≡ t → AreGivenOut a bytes n s → AreGivenOut b more m t → AreAlike a b
given_out a b bytes more n m s t same alike one h g = (h.0 ∙ same ∙ sym g.0, h.1 ∙ alike ∙ sym g.1, h.2 ∙ one ∙ sym g.2)

module _ (ends : ChosenRunsAreOne) (machines : ChosenRunsAreMachines) (starts : StartsAreRefusedOnce) (texts : TextsAreSame) (limits : TextLimits) (text choices : List ℕ) (l : Limits) (a b : Shown) where
  module _ (p q : Program) (accepted : IsAccepted limits text p) (accepted_too : IsAccepted limits text q) where
    one_program : AreOneProgram p q
    one_program = programs_once limits text p q accepted accepted_too

    back : AreOneProgram q p
    back = programs_once limits text q p accepted_too accepted

    module _ (o u : Chosen) (h : IsAsChosen p choices l.limit l.cells o) (g : IsAsChosen q choices l.limit l.cells u) where
      kept : IsAsChosen q choices l.limit l.cells (ended q o)
      kept = run_kept p q one_program choices l.limit l.cells o h

      machine : IsMachine (renumbered q.numbers o.machine)
      machine = machines limits text q choices l.limit l.cells (ended q o) accepted_too l.most kept

      one_end : (o.chosen ≡ u.chosen) × (o.further ≡ u.further) × AreSame (renumbered q.numbers o.machine) u.machine
      one_end = ends limits text q choices l.limit l.cells (ended q o) u accepted_too l.most kept g

      pairs : length o.machine.queue ≡ length u.machine.queue
      pairs = as_many_pairs (renumbered q.numbers o.machine) u.machine machine one_end.2.0 one_end.2.1

      agents : count_by is_some o.machine.agents ≡ count_by is_some u.machine.agents
      agents = as_many_agents (renumbered q.numbers o.machine) u.machine machine one_end.2.0 one_end.2.1

      one_text : text_of o.machine ≡ text_of u.machine
      one_text = texts (renumbered q.numbers o.machine) u.machine machine one_end.2

      one_count : run_numbers o ≡ run_numbers u
      one_count = λ i. record { chosen = one_end.0 i; further = one_end.1 i; pairs = pairs i; agents = agents i }

      ends_alike : (s t : Status) → EndsSo choices l.limit o s → EndsSo choices l.limit u t → s ≡ t
      ends_alike s t is was = end_once (slice_get choices u.chosen) l.limit o u s t pairs one_end.1 (subst (λ (z : ℕ). IsEndBy (slice_get choices z) l.limit o s) one_end.0 is) was

    shown_once : ShowsProgram p choices l a → a.status ≢ memory_status → ShowsProgram q choices l b → b.status ≢ memory_status → AreAlike a b
    shown_once (inl (o, h, inl (s, is, given))) had (inl (u, g, inl (t, was, gives))) has =
        given_out a b (text_of o.machine) (text_of u.machine) (run_numbers o) (run_numbers u) s t (one_text o u h g) (one_count o u h g) (ends_alike o u h g s t is was) given gives
    shown_once (inl (o, h, inr wants)) had y has = absurd (had wants.2)
    shown_once (inl (o, h, inl x)) had (inl (u, g, inr wants)) has = absurd (has wants.2)
    shown_once (inl (o, h, inl x)) had (inr (inl (c, need, free, unfit, given))) has = absurd ((starts q l.cells c need free unfit).0 (renumbered q.numbers h.start) (start_kept p q one_program l.cells h.start h.is_start))
    shown_once (inl (o, h, inl x)) had (inr (inr wants)) has = absurd (has wants.2)
    shown_once (inr (inl (c, need, free, unfit, given))) had (inl (u, g, y)) has = absurd ((starts p l.cells c need free unfit).0 (renumbered p.numbers g.start) (start_kept q p back l.cells g.start g.is_start))
    shown_once (inr (inl (c, need, free, unfit, given))) had (inr (inl (d, more, less, small, gives))) has = (given.0 ∙ sym gives.0, given.1 ∙ sym gives.1, given.2 ∙ sym gives.2)
    shown_once (inr (inl x)) had (inr (inr wants)) has = absurd (has wants.2)
    shown_once (inr (inr wants)) had y has = absurd (had wants.2)

  text_once : ShowsText limits text choices l a → a.status ≢ memory_status → ShowsText limits text choices l b → b.status ≢ memory_status → AreAlike a b
  text_once (inl (p, accepts, h)) had (inl (q, accepts_too, g)) has = shown_once p q accepts accepts_too h had g has
  text_once (inl (p, accepts, h)) had (inr (inl (r, refuses, given))) has = absurd (never_both limits text p r accepts refuses)
  text_once (inl h) had (inr (inr wants)) has = absurd (has wants.2)
  text_once (inr (inl (r, refuses, given))) had (inl (q, accepts, g)) has = absurd (never_both limits text q r accepts refuses)
  text_once (inr (inl (r, refuses, given))) had (inr (inl (e, refuses_too, gives))) has = (given.0 ∙ sym gives.0, given.1 ∙ sym gives.1, given.2 ∙ sym gives.2)
  text_once (inr (inl h)) had (inr (inr wants)) has = absurd (has wants.2)
  text_once (inr (inr wants)) had y has = absurd (had wants.2)

module _ (ends : ChosenRunsAreOne) (machines : ChosenRunsAreMachines) (starts : StartsAreRefusedOnce) (texts : TextsAreSame) (limits : TextLimits) (text choices : List ℕ) (limit cells : ℕ) (a b : Shown) where
  run_once : IsRunBy limits text choices limit cells a → a.status ≢ memory_status → IsRunBy limits text choices limit cells b → b.status ≢ memory_status → AreAlike a b
  run_once (inl (l, are, h)) had (inl (k, too, g)) has =
      let same : l ≡ k = one_limits l k (are.1 ∙ sym too.1) (are.2 ∙ sym too.2) (are.3 ∙ sym too.3) in
      text_once ends machines starts texts limits text choices k a b (subst (λ (z : Limits). ShowsText limits text choices z a) same h) had g has
  run_once (inl (l, are, h)) had (inr (none, given)) has = absurd (none are.0)
  run_once (inr (none, given)) had (inl (k, too, g)) has = absurd (none too.0)
  run_once (inr (none, given)) had (inr (nowhere, gives)) has = (given.0 ∙ sym gives.0, given.1 ∙ sym gives.1, given.2 ∙ sym gives.2)

pub run_by_answers_are_one : ChosenRunsAreOne → ChosenRunsAreMachines → StartsAreRefusedOnce → TextsAreSame → RunByAnswersAreOne
run_by_answers_are_one ends machines starts texts limits limit cells text choices old new more n m count many s t (a, h, numbers, is, given) had (b, g, numbers_too, was, gives) has =
    let same = run_once ends machines starts texts limits text choices limit cells a b h (λ e. had (is ∙ e)) g (λ e. has (was ∙ e)) in
    let here = given_alike a.bytes.items b.bytes.items old new more count many same.0 given gives in
    (here.0, here.1, numbers ∙ same.1 ∙ sym numbers_too, number_of s t (is ∙ same.2 ∙ sym was))
