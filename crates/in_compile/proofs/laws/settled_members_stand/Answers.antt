use Rattle.in_compile.proofs.Placements.Standing.{stands}
use Rattle.in_compile.proofs.laws.settled_members_stand.Goals as goal

pub returns : goal.returns
returns c = stands
