use Rattle.in_claims.proofs.Apart.{counted_once}
use Rattle.in_claims.proofs.laws.claim_counts_are_one.Goals as goal

pub returns : goal.returns
returns c = counted_once
