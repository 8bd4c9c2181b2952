use Rattle.in_open_nets.proofs.Splits.OneAnswer.{one_listing}
use Rattle.in_open_nets.proofs.laws.members_are_listed_once.Goals as goal

pub returns : goal.returns
returns c = one_listing
