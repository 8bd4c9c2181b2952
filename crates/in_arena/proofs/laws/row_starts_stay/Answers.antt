use Rattle.std.proofs.Common.{refl}
use Rattle.in_arena.specs.Arenas.{changed}
use Rattle.in_arena.proofs.RowStarts.{row_still}
use Rattle.in_arena.proofs.laws.row_starts_stay.Goals as goal

pub returns : goal.returns
returns c = λ row a n x. row_still row a (changed a n x) refl
