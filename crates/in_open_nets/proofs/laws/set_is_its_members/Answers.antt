use Rattle.in_open_nets.proofs.Splits.OneAnswer.{same_members}
use Rattle.in_open_nets.proofs.laws.set_is_its_members.Goals as goal

pub returns : goal.returns
returns c = same_members
