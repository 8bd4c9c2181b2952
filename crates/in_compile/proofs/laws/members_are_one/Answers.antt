use Rattle.in_compile.proofs.Compiled.OneTemplate.{one_member}
use Rattle.in_compile.proofs.laws.members_are_one.Goals as goal

pub returns : goal.returns
returns c = one_member
