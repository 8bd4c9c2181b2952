use Rattle.in_command_line.proofs.OneAction.{one_action}
use Rattle.in_command_line.proofs.laws.words_ask_for_one_action.Goals as goal

pub returns : goal.returns
returns c = one_action
