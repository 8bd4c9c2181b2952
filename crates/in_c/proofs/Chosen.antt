-- The view of a run whose first pairs a caller chooses.
use Rattle.std.proofs.Common.{◌≡◌, List, ℕ, [], Ok, inl, inr, subst}
use Rattle.in_arena.specs.declared.content.CellCounts.{CellCounts}
use Rattle.in_check.specs.Programs.{Program}
use Rattle.in_limits.specs.declared.limits.Limits.{Limits}
use Rattle.in_arena.specs.declared.content.CellClass.{CellClass}
use Rattle.in_machine.specs.Starts.{DoesNotFit}
use Rattle.in_chosen_runs.specs.declared.running.Chosen.{Chosen}
use Rattle.in_chosen_runs.specs.Choosing.{RunsAsChosen}
use Rattle.in_program.specs.Acting.{status}
use Rattle.in_c.specs.declared.choosing.Shown.{Shown}
use Rattle.in_c.specs.Choosing.{AreGivenOut, ShowsProgram, ShowsRun, no_run}

pub ran_shown : (p : Program) (choices : List ℕ) (l : Limits) (o : Chosen) (a : Shown) (i : ℕ) (j : CellCounts) (k : ℕ) → i ≡ l.limit → j ≡ l.cells → k ≡ l.limit → RunsAsChosen p choices i j (Ok o) → ShowsRun choices k o a → ShowsProgram p choices l a
ran_shown p choices l o a i j k limit cells again runs shows =
    let in_limit : RunsAsChosen p choices l.limit j (Ok o) = subst (λ (z : ℕ). RunsAsChosen p choices z j (Ok o)) limit runs in
    let in_cells : RunsAsChosen p choices l.limit l.cells (Ok o) = subst (λ (z : CellCounts). RunsAsChosen p choices l.limit z (Ok o)) cells in_limit in
    inl (o, in_cells, subst (λ (z : ℕ). ShowsRun choices z o a) again shows)

pub full_shown : (p : Program) (choices : List ℕ) (l : Limits) (a : Shown) (j : CellCounts) (c : CellClass) (need free : ℕ) → j ≡ l.cells → DoesNotFit p j c need free → AreGivenOut a [] no_run (status 4) → ShowsProgram p choices l a
full_shown p choices l a j c need free cells full shown = inr (inl (c, need, free, subst (λ (z : CellCounts). DoesNotFit p z c need free) cells full, shown))
