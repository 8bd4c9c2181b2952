use Rattle.in_arena.proofs.Classes.{numbers_apart}
use Rattle.in_arena.proofs.laws.numbers_are_apart.Goals as goal

pub returns : goal.returns
returns c = numbers_apart
