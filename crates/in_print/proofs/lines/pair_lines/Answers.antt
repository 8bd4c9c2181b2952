use Rattle.in_print.proofs.LineByLine.{wrote_pair}
use Rattle.in_print.proofs.lines.pair_lines.Goals as goal

pub loop-number-preserved : goal.loop-number-preserved
loop-number-preserved c =
    let line = c.in_ok-pair_line.ensures in
    wrote_pair c.args.machine.now c.args.sheet.now c.loop-number.sheet c.pair_line.new.sheet c.loop-number.number line.0 line.1 c.loop-number.invariant line.2
