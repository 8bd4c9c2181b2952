use Rattle.in_simple_deriving.proofs.OneAnswer.{derived_once}
use Rattle.in_simple_deriving.proofs.laws.nets_are_derived_once.Goals as goal

pub returns : goal.returns
returns c = derived_once
