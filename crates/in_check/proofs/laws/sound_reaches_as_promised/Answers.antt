use Rattle.in_check.proofs.Reached.Kept.{as_promised}
use Rattle.in_check.proofs.laws.sound_reaches_as_promised.Goals as goal

pub returns : goal.returns
returns c = as_promised
