use Rattle.in_compile.proofs.Needs.Classes.{one_need}
use Rattle.in_compile.proofs.laws.agent_needs_are_one.Goals as goal

pub returns : goal.returns
returns c = one_need
