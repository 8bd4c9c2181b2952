use Rattle.in_claims.proofs.Apart.{unclaimed}
use Rattle.in_claims.proofs.laws.new_boards_are_unclaimed.Goals as goal

pub returns : goal.returns
returns c = unclaimed
