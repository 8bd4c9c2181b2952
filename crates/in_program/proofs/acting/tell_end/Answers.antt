use Rattle.in_program.proofs.acting.tell_end.Goals as goal

pub returns-then-net : goal.returns-then-net
returns-then-net g c = rw c.if-net.true c.tell_outcome.ensures

pub returns-else-net : goal.returns-else-net
returns-else-net g c = rw c.if-net.false c.tell_count.ensures
