use Rattle.in_print.proofs.Depths.{holds_each}
use Rattle.in_print.proofs.laws.texts_hold_all.Goals as goal

pub returns : goal.returns
returns c = holds_each
