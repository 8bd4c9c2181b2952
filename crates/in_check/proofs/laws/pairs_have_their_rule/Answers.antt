use Rattle.in_check.proofs.Reached.Plain.{have_their_rule}
use Rattle.in_check.proofs.laws.pairs_have_their_rule.Goals as goal

pub returns : goal.returns
returns c = have_their_rule
