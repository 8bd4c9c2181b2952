use Rattle.in_program.proofs.OneReply.{answered_once}
use Rattle.in_program.proofs.laws.texts_are_answered_once.Goals as goal

pub returns : goal.returns
returns c = answered_once
