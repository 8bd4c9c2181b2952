use Rattle.std.proofs.Common.{◌∙◌, ap}
use Rattle.clap.specs.Simple.{app_of_fields}
use Rattle.clap.specs.Words.{App}
use Rattle.in_command_line.specs.CommandLine.{needs_subcommand, tells_version}
use Rattle.in_command_line.proofs.action.command_alone.Goals as goal

pub returns : goal.returns
returns c =
    let required = ap app_of_fields c.subcommand_required.ensures ∙ ap (λ (a : App). needs_subcommand a) (ap app_of_fields c.about.ensures ∙ c.new.ensures.app) in
    ap app_of_fields c.version.ensures ∙ ap (λ (a : App). tells_version a) required
