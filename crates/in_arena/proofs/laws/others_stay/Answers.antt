use Rattle.std.proofs.Common.{◌++◌, ◌∷◌, []}
use Rattle.in_arena.specs.Arenas.{changed}
use Rattle.in_arena.proofs.Lending.{one_back}
use Rattle.in_arena.proofs.laws.others_stay.Goals as goal

pub returns : goal.returns
returns c = λ a ls l x of. one_back a (changed a l.number x) (ls ++ l ∷ []) ls l x of (λ i. ls ++ l ∷ []) (λ i. changed a l.number x)
