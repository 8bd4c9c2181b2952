use Rattle.in_program.proofs.AnyOrder.{calls_answered_once}
use Rattle.in_program.proofs.laws.calls_are_answered_once.Goals as goal

pub returns : goal.returns
returns c = calls_answered_once
