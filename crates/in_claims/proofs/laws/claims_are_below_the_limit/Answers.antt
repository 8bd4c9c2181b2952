use Rattle.in_claims.proofs.Apart.{below}
use Rattle.in_claims.proofs.laws.claims_are_below_the_limit.Goals as goal

pub returns : goal.returns
returns c = below
