use Rattle.in_gluing.proofs.Names.{renamed_exists}
use Rattle.in_gluing.proofs.laws.renamed_exists.Goals as goal

pub returns : goal.returns
returns c = renamed_exists
