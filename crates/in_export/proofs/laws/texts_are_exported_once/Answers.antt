use Rattle.in_export.proofs.OneLine.{exported_once}
use Rattle.in_export.proofs.laws.texts_are_exported_once.Goals as goal

pub returns : goal.returns
returns c = exported_once
