use Rattle.in_arena.proofs.Changes.{counts_change}
use Rattle.in_arena.proofs.laws.free_counts_change.Goals as goal

pub returns : goal.returns
returns c = counts_change
