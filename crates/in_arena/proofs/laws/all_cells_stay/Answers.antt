use Rattle.std.proofs.Common.{length-set, ◌∙◌}
use Rattle.in_arena.proofs.laws.all_cells_stay.Goals as goal

pub returns : goal.returns
returns c = λ a n x all. length-set a.states n x ∙ all
