-- A net that is reduced in parts. This project's own choice.
use Rattle.std.specs.Prelude.{◌≡◌, ◌+◌, ◌*◌, ◌≤◌, ℕ, List}
use Rattle.in_arena.specs.declared.content.CellClass.{CellClass}
use Rattle.in_arena.specs.declared.content.CellNo.{CellNo}
use Rattle.in_compile.specs.Cells.{agents_of, count_of}
use Rattle.in_phases.specs.declared.phases.Worked.{Worked}
use Rattle.in_phases.specs.declared.taking.Taken.{Taken}
use Rattle.in_reducer.specs.declared.seam.Seam.{Seam}
use Rattle.in_reducer.specs.Machines.{MachineParts}
use Rattle.in_reducer.specs.Parting.{IsSplitOff, ReducesTo}
use Rattle.in_reducer.specs.PartingLaws.{IsCutTimes}
use Rattle.in_reducer.specs.Reducers.{IsReducer}

-- at least `count` cells of each class are free
abbrev pub HasFree : MachineParts → ℕ → Type 0
HasFree m count = (c : CellClass) → count ≤ count_of m.vacant c

-- there is at least one part; the longest part did no more than all together, and no part did more than it
abbrev pub AreCountsOfParts : Worked → Type 0
AreCountsOfParts w = (1 ≤ w.parts) × (w.longest ≤ w.interactions) × (w.interactions ≤ w.parts * w.longest)

-- after `cuts` cuts some agents were split off as a part, and the seam has room for it to come back
pub record IsSplitBy (cut : MachineParts) (cuts size : ℕ) (seam : Seam) (part rest : MachineParts) : Type 0 where
  pub agents : List CellNo
  pub own : ℕ
  pub split : IsSplitOff cut agents own cuts size rest part
  pub ends : seam.most ≡ own + (cuts + cuts)
  pub cells : seam.cells ≡ size
  pub of_rest : IsReducer rest
  pub of_part : IsReducer part

-- wires were cut, and then a part was split off
pub record IsTakenOut (m : MachineParts) (cuts size : ℕ) (seam : Seam) (part rest : MachineParts) : Type 0 where
  pub reducer : IsReducer m
  pub cut : MachineParts
  pub times : IsCutTimes m cuts cut
  pub of_cut : IsReducer cut
  pub split : IsSplitBy cut cuts size seam part rest

-- the part that was taken out and the rest were reduced since, by k interactions together; there is room for the part's agents
pub record CanComeBack (m : MachineParts) (k : ℕ) (t : Taken) (now : MachineParts) : Type 0 where
  pub rest : MachineParts
  pub part : MachineParts
  pub taken : IsTakenOut m t.cuts t.cells t.seam part rest
  pub by_rest : ℕ
  pub by_part : ℕ
  pub rest_reduced : ReducesTo rest by_rest now
  pub part_reduced : ReducesTo part by_part t.part
  pub together : by_rest + by_part ≡ k
  pub room : (c : CellClass) → agents_of now.program.tables c t.part.agents ≤ count_of now.vacant c
