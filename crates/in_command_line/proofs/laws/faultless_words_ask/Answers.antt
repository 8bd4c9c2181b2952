use Rattle.in_command_line.proofs.Naming.{faultless_asks}
use Rattle.in_command_line.proofs.laws.faultless_words_ask.Goals as goal

pub returns : goal.returns
returns c = faultless_asks
