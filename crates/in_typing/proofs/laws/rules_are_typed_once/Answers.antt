use Rattle.in_typing.proofs.OneFault.{rule_typed_once}
use Rattle.in_typing.proofs.laws.rules_are_typed_once.Goals as goal

pub returns : goal.returns
returns c = rule_typed_once
