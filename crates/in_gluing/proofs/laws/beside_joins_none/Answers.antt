use Rattle.in_gluing.proofs.Beside.{beside_joins_none}
use Rattle.in_gluing.proofs.laws.beside_joins_none.Goals as goal

pub returns : goal.returns
returns c = beside_joins_none
