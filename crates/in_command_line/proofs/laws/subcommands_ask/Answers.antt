use Rattle.in_command_line.proofs.Examples.{classes_ask, files_asked, flags_asked, given_asks, large_asked, named_ask, others_ask, usual_asks}
use Rattle.in_command_line.proofs.laws.subcommands_ask.Goals as goal

pub returns : goal.returns
returns c = record { named = named_ask; usual = usual_asks; given = given_asks; classes = classes_ask; others = others_ask; flags = flags_asked; files = files_asked; large = large_asked }
