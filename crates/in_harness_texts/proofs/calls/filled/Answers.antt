use Rattle.in_compile.specs.Cells.{count_of}
use Rattle.in_compile.proofs.Public.{all_back}
use Rattle.in_harness_texts.proofs.calls.filled.Goals as goal

pub returns-in-Ok : goal.returns-in-Ok
returns-in-Ok c = all_back (count_of c.args.need) c.args.arena.now c.fill.new.arena c.in-Ok.stock.bag c.spend.new.arena c.cells.ensures.1 c.in-Ok.ensures.filled.0 c.spend.ensures
