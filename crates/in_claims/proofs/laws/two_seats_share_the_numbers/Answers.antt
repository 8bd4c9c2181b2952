use Rattle.in_claims.proofs.Apart.{shared}
use Rattle.in_claims.proofs.laws.two_seats_share_the_numbers.Goals as goal

pub returns : goal.returns
returns c = shared
