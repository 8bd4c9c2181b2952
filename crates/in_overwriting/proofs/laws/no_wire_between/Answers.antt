use Rattle.in_overwriting.proofs.Overwriting.Flagged.{no_wire_between}
use Rattle.in_overwriting.proofs.laws.no_wire_between.Goals as goal

pub returns : goal.returns
returns c = no_wire_between
