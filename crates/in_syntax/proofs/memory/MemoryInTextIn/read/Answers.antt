use Rattle.std.proofs.Common.{Some, drop, ap, arith}
use Rattle.in_syntax.proofs.Lexing.Known.{copied}
use Rattle.in_syntax.proofs.memory.MemoryInTextIn.read.Goals as goal

pub returns-clause-given : goal.returns-clause-given
returns-clause-given c =
    ap Some (copied c.args.self.now.at c.min-n.result c.args.self.now.text.now c.copy_from_slice.new.self (drop c.min-n.result c.args.into.now) (omega arith) c.copy_from_slice.ensures.after)
