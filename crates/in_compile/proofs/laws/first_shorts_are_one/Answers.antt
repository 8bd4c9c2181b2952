use Rattle.in_compile.proofs.Needs.Classes.{short_or_none}
use Rattle.in_compile.proofs.laws.first_shorts_are_one.Goals as goal

pub returns : goal.returns
returns c = short_or_none
