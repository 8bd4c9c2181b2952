use Rattle.in_memory.proofs.Splitting.{written_in_part}
use Rattle.in_memory.proofs.laws.written_in_part_is_written.Goals as goal

pub returns : goal.returns
returns g c = written_in_part
