use Rattle.in_arena.proofs.Classes.{class_of_number}
use Rattle.in_arena.proofs.laws.numbers_are_all.Goals as goal

pub returns : goal.returns
returns c = class_of_number
