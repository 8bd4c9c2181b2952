use Rattle.in_memory.proofs.Splitting.{part_and_rest, rest_and_part}
use Rattle.in_memory.proofs.laws.parts_are_all.Goals as goal

pub returns : goal.returns
returns g c = λ p cs. (part_and_rest p cs, rest_and_part p cs)
