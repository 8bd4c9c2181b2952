use Rattle.in_typing.proofs.OneFault.{typed_once}
use Rattle.in_typing.proofs.laws.nets_are_typed_once.Goals as goal

pub returns : goal.returns
returns c = typed_once
