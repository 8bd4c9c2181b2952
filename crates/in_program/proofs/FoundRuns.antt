-- The outcome of a program's run, with or without its net.
use Rattle.std.proofs.Common.{ℕ, List, ◌++◌, Bool, true, false, Ok}
use Rattle.in_arena.specs.declared.content.CellClass.{CellClass}
use Rattle.in_check.specs.Programs.{Certified}
use Rattle.in_limits.specs.declared.limits.Limits.{Limits}
use Rattle.in_machine.specs.Starts.{DoesNotFit}
use Rattle.in_machine.specs.Texts.{text_of}
use Rattle.in_reducer.specs.Machines.{MachineParts}
use Rattle.in_run.specs.Outcomes.{RunsTo}
use Rattle.in_run.specs.declared.stops.Stop.{Stop}
use Rattle.in_program.specs.declared.acting.Status.{Status}
use Rattle.in_program.specs.Acting.{AreFound, AreThese, full, net_shown, ran, run_action, status, stop_status, stopped}
use Rattle.in_program.specs.Lines.{run_lines, start_line}

pub found_run : (net : Bool) (l : Limits) (p : Certified) (m : MachineParts) (k : ℕ) (s : Stop) (lines : List ℕ) (t : Status) → RunsTo p.program l (Ok (record { machine = m; interactions = k; stop = s }))
    → AreThese (net_shown net (text_of m) ++ run_lines k s) (stop_status s) lines t → AreFound (run_action net l) p lines t
found_run true l p m k s lines t runs h = (ran m k s, runs, h.0, h.1)
found_run false l p m k s lines t runs h = (stopped m k s, runs, h.0, h.1)

pub found_full : (net : Bool) (l : Limits) (p : Certified) (c : CellClass) (need free : ℕ) (lines : List ℕ) (t : Status) → DoesNotFit p.program l.cells c need free
    → AreThese (start_line c need free) (status 4) lines t → AreFound (run_action net l) p lines t
found_full true l p c need free lines t not h = (full c need free, not, h.0, h.1)
found_full false l p c need free lines t not h = (full c need free, not, h.0, h.1)
