use Rattle.in_claims.proofs.Apart.{apart}
use Rattle.in_claims.proofs.laws.claims_are_apart.Goals as goal

pub returns : goal.returns
returns c = apart
