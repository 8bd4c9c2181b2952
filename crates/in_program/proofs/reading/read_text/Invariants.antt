use Rattle.std.proofs.Common.{◌≤◌, ◌+◌, length}
use Rattle.in_syntax.specs.Streams.{one_more}
use Rattle.in_syntax.specs.TextLimits.{text_limit}
use Rattle.in_print.specs.Devices.{Moves}
use Rattle.in_program.proofs.reading.read_text.Given as goal

abbrev pub invariant-loop-turn : goal.invariant-loop-turn
invariant-loop-turn g l = record {
  moves : Moves (g.R.TextIn.reader l.fn.reader).device (g.R.TextIn.reader l.reader).device l.text.items;
  reads : (g.R.TextIn.reader l.reader).reads ≤ (g.R.TextIn.reader l.fn.reader).reads + l._turn;
  grows : l._turn ≤ length l.text.items;
  within : length l.text.items ≤ text_limit l.fn.limits;
  some : one_more (g.R.TextIn.reader l.fn.reader).reads ≤ one_more (g.R.TextIn.reader l.reader).reads;
}
