use Rattle.in_typing.proofs.TypedParts.{net_typed}
use Rattle.in_typing.proofs.laws.typed_parts_are_typed_nets.Goals as goal

pub returns : goal.returns
returns c = λ t n whole typed. net_typed t n whole typed
