use Rattle.in_claims.proofs.Apart.{none_left}
use Rattle.in_claims.proofs.laws.done_means_all_claimed.Goals as goal

pub returns : goal.returns
returns c = none_left
