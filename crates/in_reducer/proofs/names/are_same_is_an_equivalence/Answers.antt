use Rattle.in_reducer.proofs.Numbers.SameKind.{an_equivalence}
use Rattle.in_reducer.proofs.names.are_same_is_an_equivalence.Goals as goal

pub returns : goal.returns
returns c = an_equivalence
