use Rattle.std.proofs.Common.{sym}
use Rattle.in_open_nets.proofs.PartsOf.Marks.{no_mark}
use Rattle.in_open_nets.proofs.scratch.is_marked.Goals as goal

pub returns-in-None : goal.returns-in-None
returns-in-None c = sym (no_mark c.args.last c.args.marks.now c.args.number (sym c.in-None.ensures.value))
