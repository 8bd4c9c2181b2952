use Rattle.in_command_line.proofs.Refusals.{help_asked, numbers_wrong, others_wrong, version_asked}
use Rattle.in_command_line.proofs.laws.words_are_refused.Goals as goal

pub returns : goal.returns
returns c = record { help = help_asked; version = version_asked; wrong = others_wrong; range = numbers_wrong }
