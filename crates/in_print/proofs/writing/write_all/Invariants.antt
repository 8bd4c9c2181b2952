use Rattle.std.proofs.Common.{◌≤◌, ◌-◌, length, take}
use Rattle.in_print.specs.Devices.{Moves}
use Rattle.in_print.proofs.writing.write_all.Given as goal

abbrev pub invariant-loop-done : goal.invariant-loop-done
invariant-loop-done g l = record {
  moves : Moves (g.W.TextOut.device l.fn.writer) (g.W.TextOut.device l.writer) (take l.done l.bytes);
  within : l.done ≤ length l.bytes;
}

abbrev pub decreases-loop-done : goal.decreases-loop-done
decreases-loop-done g l = length l.bytes - l.done
