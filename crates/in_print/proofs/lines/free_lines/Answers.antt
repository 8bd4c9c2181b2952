use Rattle.in_print.proofs.LineByLine.{wrote_free}
use Rattle.in_print.proofs.lines.free_lines.Goals as goal

pub loop-number-preserved : goal.loop-number-preserved
loop-number-preserved c = wrote_free c.args.machine.now c.args.sheet.now c.loop-number.sheet c.free_line.new.sheet c.loop-number.number c.loop-number.invariant c.in_ok-free_line.ensures
