use Rattle.in_gluing.proofs.NamesExist.{names_exist}
use Rattle.in_gluing.proofs.laws.names_exist.Goals as goal

pub returns : goal.returns
returns c = names_exist
